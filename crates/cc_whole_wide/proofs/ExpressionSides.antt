-- Expressions and places that stand beside each other.
use Rattle.std.proofs.Common.{◌≡◌, ℕ, suc, ◌+◌, Bool, false, List, [], ◌∷◌, Option, Some, None, Ok, refl, ap, ◌∙◌, arith, length}
use Rattle.std.specs.Prelude.{pos}
use Rattle.cf_base.specs.declared.arith.Arith.{Arith}
use Rattle.cc_whole.specs.declared.types.CType.{CType}
use Rattle.cc_whole.specs.declared.types.CType.TheVariants as ty
use Rattle.cc_whole.specs.declared.types.CConstant.{CConstant}
use Rattle.cc_whole.specs.declared.types.CConstant.TheVariants as int
use Rattle.cc_whole.specs.declared.types.CSignature.{CSignature}
use Rattle.cc_whole.specs.declared.expression.Prefix.{Prefix}
use Rattle.cc_whole.specs.Plain.{Place, pointed, Expression, constant, load, unary, cast, binary, Callee, by_pointer}
use Rattle.cc_whole.specs.Numbers.{fits_constant, constant_type}
use Rattle.cc_whole.specs.Types.{may_stand_left, binary_type, same_type}
use Rattle.cc_whole.specs.Landmarks.{type_marks, marks, signature_marks}
use Rattle.cc_whole.specs.Fault.{Checks, broken, holds, moved, checked_then, ◌before◌}
use Rattle.cc_whole.specs.Known.{Named}
use Rattle.cc_whole.specs.Typed.{is_zero, typed_prefix, typed_cast, typed_pointed, fitted, typed, typed_place, typed_target}
use Rattle.cc_whole.specs.Statements.{arguments}
use Rattle.cc_whole_wide.specs.Others.{later}
use Rattle.cc_whole_wide.proofs.FaultPlaces.{typed_inside}
use Rattle.cc_whole_wide.proofs.Stopping.{Stopped, late, then_stopped, moved_stopped, passes_then, test_stopped, first_of, Beside, same, stops}

-- an int as a function pointer, which breaks V3 behind its first landmark
abbrev pub breaking : Expression
breaking = cast ty.FunctionPointer (constant (int.Signed (pos 1)))

typed_wide : (c : CConstant) (b : Bool) → fits_constant c ≡ b → b ≡ false → (holds (fits_constant c) 11 0 before Ok (constant_type c)) ≡ broken 11 0
typed_wide c b is wide = ap (λ x. holds x 11 0 before Ok (constant_type c)) (is ∙ wide)

pub beside_constant : (c : CConstant) → fits_constant c ≡ false → Beside typed (Some 0) (constant c) breaking
unfolding same_type
beside_constant c wide = stops 0 (constant c) breaking (λ k. late (record { rule = 3; place = 1 }) (omega arith) (typed_wide c false wide refl) refl)

pub beside_unary : (p : Prefix) {o : Option ℕ} {e d : Expression} → Beside typed o e d → Beside typed o (unary p e) (unary p d)
beside_unary p (same e) = same (unary p e)
beside_unary p (stops w e d h) = stops w (unary p e) (unary p d) (λ k. then_stopped w (typed e k) (typed d k) (typed_prefix p) (typed_prefix p) (h k))

pub beside_cast : (t : CType) {o : Option ℕ} {e d : Expression} → Beside typed o e d → Beside typed (later (type_marks t) o) (cast t e) (cast t d)
beside_cast t (same e) = same (cast t e)
beside_cast t (stops w e d h) =
    stops (type_marks t + w) (cast t e) (cast t d)
    (λ k. then_stopped (type_marks t + w) (moved (type_marks t) (typed e k)) (moved (type_marks t) (typed d k)) (typed_cast t (is_zero e)) (typed_cast t (is_zero d))
    (moved_stopped (type_marks t) w (typed e k) (typed d k) (h k)))

pub beside_binary : (o : Arith) {p q : Option ℕ} {a b c d : Expression} → Beside typed p a c → Beside typed q b d
    → Beside typed (first_of p (marks a) q) (binary o a b) (binary o c d)
beside_binary o (same a) (same b) = same (binary o a b)
beside_binary o (same a) (stops w b d h) =
    stops (marks a + w) (binary o a b) (binary o a d)
    (λ k. passes_then (marks a) (marks a + w) (typed a k) _ _ (typed_inside a k) (omega arith)
    (λ s is. test_stopped (may_stand_left o s) 3 0 (marks a + w) _ _ (omega arith)
    (then_stopped (marks a + w) (moved (marks a) (typed b k)) (moved (marks a) (typed d k)) (λ t. fitted (marks a) (binary_type o s (is_zero a) t (is_zero b)))
    (λ t. fitted (marks a) (binary_type o s (is_zero a) t (is_zero d))) (moved_stopped (marks a) w (typed b k) (typed d k) (h k)))))
beside_binary o {b = b} {d = d} (stops w a c h) q =
    stops w (binary o a b) (binary o c d) (λ k. then_stopped w (typed a k) (typed c k) _ _ (h k))

-- ---- places

pub data PlaceBeside : Option ℕ → Place → Place → Type 0 where
  itself : (p : Place) → PlaceBeside None p p
  inside : (t : CType) (w : ℕ) (e d : Expression) → Beside typed (Some w) e d → PlaceBeside (Some (type_marks t + w)) (pointed t e) (pointed t d)

pub beside_pointed : (t : CType) {o : Option ℕ} {e d : Expression} → Beside typed o e d → PlaceBeside (later (type_marks t) o) (pointed t e) (pointed t d)
beside_pointed t (same e) = itself (pointed t e)
beside_pointed t (stops w e d h) = inside t w e d (stops w e d h)

pub pointed_stopped : (t : CType) (w : ℕ) (e d : Expression) → Beside typed (Some w) e d → (k : List Named)
    → Stopped (type_marks t + w) (typed_place (pointed t e) k) (typed_place (pointed t d) k)
pointed_stopped t _ _ _ (stops w e d h) k =
    then_stopped (type_marks t + w) (moved (type_marks t) (typed e k)) (moved (type_marks t) (typed d k)) (typed_pointed t) (typed_pointed t)
    (moved_stopped (type_marks t) w (typed e k) (typed d k) (h k))

pub beside_load : {o : Option ℕ} {p q : Place} → PlaceBeside o p q → Beside typed o (load p) (load q)
beside_load (itself p) = same (load p)
beside_load (inside t w e d b) = stops (type_marks t + w) (load (pointed t e)) (load (pointed t d)) (λ k. pointed_stopped t w e d b k)

pub beside_target : {o : Option ℕ} {p q : Place} → PlaceBeside o p q → Beside typed_target o p q
beside_target (itself p) = same p
beside_target (inside t w e d b) = stops (type_marks t + w) (pointed t e) (pointed t d) (λ k. pointed_stopped t w e d b k)

-- ---- an expression and a test

pub tested : {w : ℕ} {e d : Expression} → Beside typed (Some w) e d → (k : List Named) (g h : CType → Checks)
    → Stopped w (checked_then (typed e k) g) (checked_then (typed d k) h)
tested (stops w e d b) k g h = then_stopped w (typed e k) (typed d k) g h (b k)

-- ---- arguments

-- as many arguments, and the checks of as many parameters
pub data AllBeside : Option ℕ → List Expression → List Expression → Type 0 where
  all_same : (es : List Expression) → AllBeside None es es
  all_stop : (w : ℕ) (es ds : List Expression) → length ds ≡ length es
      → ((ts : List CType) (k : List Named) → length ts ≡ length es → Stopped w (arguments ts es k) (arguments ts ds k)) → AllBeside (Some w) es ds

no_types : (n : ℕ) → 0 ≡ suc n → ⊥
no_types n e = absurd (omega (arith, e))

first_wide : (w : ℕ) (e d : Expression) (es ds : List Expression) → ((k : List Named) → Stopped w (typed e k) (typed d k)) → (ts : List CType) (k : List Named)
    → length ts ≡ suc (length es) → Stopped w (arguments ts (e ∷ es) k) (arguments ts (d ∷ ds) k)
first_wide w e d es ds h [] k count = absurd (no_types (length es) count)
first_wide w e d es ds h (t ∷ ts) k count = then_stopped w (typed e k) (typed d k) _ _ (h k)

next_wide : (w : ℕ) (e : Expression) (es ds : List Expression)
    → ((ts : List CType) (k : List Named) → length ts ≡ length es → Stopped w (arguments ts es k) (arguments ts ds k)) → (ts : List CType) (k : List Named)
    → length ts ≡ suc (length es) → Stopped (marks e + w) (arguments ts (e ∷ es) k) (arguments ts (e ∷ ds) k)
next_wide w e es ds h [] k count = absurd (no_types (length es) count)
next_wide w e es ds h (t ∷ ts) k count =
    passes_then (marks e) (marks e + w) (typed e k) _ _ (typed_inside e k) (omega arith)
    (λ s is. test_stopped (same_type s t) 5 0 (marks e + w) _ _ (omega arith)
    (moved_stopped (marks e) w (arguments ts es k) (arguments ts ds k) (h ts k (omega (arith, count)))))

pub as_many : {o : Option ℕ} {es ds : List Expression} → AllBeside o es ds → length ds ≡ length es
as_many (all_same es) = refl
as_many (all_stop w es ds count h) = count

pub beside_more : {p q : Option ℕ} {e d : Expression} {es ds : List Expression} → Beside typed p e d → AllBeside q es ds
    → AllBeside (first_of p (marks e) q) (e ∷ es) (d ∷ ds)
beside_more (same e) (all_same es) = all_same (e ∷ es)
beside_more (same e) (all_stop w es ds count h) = all_stop (marks e + w) (e ∷ es) (e ∷ ds) (ap suc count) (next_wide w e es ds h)
beside_more {es = es} {ds = ds} (stops w e d h) q = all_stop w (e ∷ es) (d ∷ ds) (ap suc (as_many q)) (first_wide w e d es ds h)

-- ---- what is called

pub data CalleeBeside : Option ℕ → Callee → Callee → Type 0 where
  callee_same : (c : Callee) → CalleeBeside None c c
  through : (s : CSignature) (w : ℕ) (e d : Expression) → Beside typed (Some w) e d → CalleeBeside (Some (signature_marks s + w)) (by_pointer s e) (by_pointer s d)

pub beside_pointer : (s : CSignature) {o : Option ℕ} {e d : Expression} → Beside typed o e d → CalleeBeside (later (signature_marks s) o) (by_pointer s e) (by_pointer s d)
beside_pointer s (same e) = callee_same (by_pointer s e)
beside_pointer s (stops w e d h) = through s w e d (stops w e d h)
