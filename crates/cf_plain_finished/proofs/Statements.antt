-- Statements leave no object to be destroyed, by induction on their tree; and functions that are entered do, by the bound of ticks.
use Rattle.std.proofs.Common.{◌≡◌, ℕ, zero, suc, Bool, true, false, ◌&&◌, if◌then◌else◌, List, [], ◌∷◌, bytes_eq, refl, sym, ◌∙◌, ap, subst}
use Rattle.std.specs.Prelude.{ℤ, int_le, Option, Some, None, length, nat_le, not}
use Rattle.cf_base.specs.World.{World, Went, spend_of}
use Rattle.cf_base.proofs.Tests.{both}
use Rattle.cf_core.specs.Types.{Name, is_array, is_class, result as result_type}
use Rattle.cf_core.specs.Classes.{Class}
use Rattle.cf_core.specs.Core.{Role, plain_function}
use Rattle.cf_core.specs.Places.{Place}
use Rattle.cf_core.specs.Store.{Value, Nothing, Number, At, Code}
use Rattle.cf_core.specs.Run.{State, Gives, Act, ◌>>=◌, ◌>>◌, gives, tick, valid, when}
use Rattle.cf_core.specs.Access.{place_type, number_of, read_place, write_place, followed, fill_zeros}
use Rattle.cf_core.specs.Pointers.{truth_value, pointer_op, from_void_value}
use Rattle.cf_core.specs.Scalars.{truth_of, converted_value, operated, signed, changed_value, indexed, decayed, pointed_to}
use Rattle.cf_core.specs.Calls as core
use Rattle.cf_core.specs.Calls.{Program, root, name_function, run_named}
use Rattle.cf_core.specs.Objects.{local_place, static_place, same_type, literal_object, new_local, settle, character_kind, write_bytes, element_count, run_pointer}
use Rattle.cf_core.specs.Program.{begins, ends, unbuilds, ended_well}
use Rattle.cf_plain.specs.Plain as plain
use Rattle.cf_plain.specs.Plain.{Register, Action, Plain, Plains, act, set, branch, loop, switch, case_label, default_label, leave, continue, give, parts, nothing, more, PlainFunction}
use Rattle.cf_plain.specs.Acts.{Registers, no_registers, held, objects_of, used_in, place_in, doing, acts}
use Rattle.cf_plain.specs.Running.{Flow, Falls, Breaks, Continues, Returns, Again, turn, calls, core_flow, keep, falling, turning, leaving, has_case, is_true, does, all, from_case, from_default, plain_named, run_body, run_found, runs}
use Rattle.cf_plain_frames.specs.Simple.{is_simple, simple, all_simple, is_plain, function_simple, functions_simple}
use Rattle.cf_plain_finished.specs.Finished.{Always, Keeps}
use Rattle.cf_plain_finished.proofs.Acts.{keeps-then, keeps-next, keeps-gives, keeps-malformed, keeps-undefined, keeps-valid, keeps-when, keeps-at}
use Rattle.cf_plain_finished.proofs.Values.{keeps-number, keeps-true, keeps-truth, keeps-pointed, keeps-converted, keeps-operated, keeps-signed, keeps-changed, keeps-indexed, keeps-decayed, keeps-pointers, keeps-from_void, keeps-read, keeps-followed, keeps-local, keeps-static, keeps-same_type, keeps-function, keeps-held, keeps-used_in, keeps-place_in}
use Rattle.cf_plain_finished.proofs.Calls.{Q, EntersKept, keeps-write, keeps-zeros, keeps-bytes, keeps-settle, keeps-new, keeps-literal, keeps-finish, keeps-call, keeps-pointer-call, keeps-named}

-- so do turns of loops
abbrev TurnsKept : Again → Type 0
TurnsKept again =
    (ss ts : Plains) (g : Registers) → all_simple ss ≡ true → all_simple ts ≡ true → Keeps Q (again (turn ss ts g))

module _ (again : Again) (turns : TurnsKept again) (enters : EntersKept again) (P : Program) (none : P.classes ≡ []) where
  keeps-doing : {A : Type 0} (a : Act A) → Keeps Q a → Keeps Q (doing a)
  keeps-doing a h = keeps-then Q a (λ _. gives Nothing) h (λ _. keeps-gives Q Nothing)

  -- ---- actions

  module _ (g : Registers) where
    two-used : (r q : Register) (go : Value → Value → Act Value) → ((x y : Value) → Keeps Q (go x y)) → Keeps Q (used_in g r >>= (λ x. used_in g q >>= (λ y. go x y)))
    two-used r q go k =
        keeps-then Q (used_in g r) (λ x. used_in g q >>= (λ y. go x y)) (keeps-used_in Q g r)
        (λ x. keeps-then Q (used_in g q) (λ y. go x y) (keeps-used_in Q g q) (λ y. k x y))

    tested-of : (r : Register) (go : Bool → Value) → Keeps Q (held g r >>= truth_of >>= (λ b. gives (go b)))
    tested-of r go =
        keeps-then Q (held g r >>= truth_of) (λ b. gives (go b)) (keeps-then Q (held g r) truth_of (keeps-held Q g r) (keeps-truth Q)) (λ b. keeps-gives Q (go b))

    action-stays : (a : Action) → is_simple a ≡ true → Keeps Q (acts (calls again) P g a)
    action-stays (plain.number z) h = keeps-gives Q (Number z)
    action-stays (plain.text j b) h = keeps-then Q (literal_object j b) (λ o. gives (At (root o))) (keeps-literal j b) (λ o. keeps-gives Q (At (root o)))
    action-stays (plain.local i) h = keeps-then Q (local_place i) (followed P.classes) (keeps-local Q i) (keeps-followed Q P.classes)
    action-stays (plain.static_object name t) h =
        keeps-then Q (same_type P name t >> static_place P name) (followed P.classes)
        (keeps-next Q (same_type P name t) (static_place P name) (keeps-same_type Q P name t) (keeps-static Q P name)) (keeps-followed Q P.classes)
    action-stays (plain.function name t) h = keeps-next Q (name_function P name t) (gives (Code name)) (keeps-function Q P name t) (keeps-gives Q (Code name))
    action-stays (plain.read r) h = keeps-then Q (place_in g r) (read_place P.classes) (keeps-place_in Q g r) (keeps-read Q P.classes)
    action-stays (plain.dereference r) h = keeps-then Q (used_in g r) pointed_to (keeps-used_in Q g r) (keeps-pointed Q)
    action-stays (plain.decay r) h = keeps-then Q (used_in g r) (decayed P.classes) (keeps-used_in Q g r) (keeps-decayed Q P.classes)
    action-stays (plain.index r q) h = two-used r q (indexed P.classes) (keeps-indexed Q P.classes)
    action-stays (plain.convert t r) h = keeps-then Q (held g r) (converted_value t) (keeps-held Q g r) (keeps-converted Q t)
    action-stays (plain.from_void t r) h = keeps-then Q (used_in g r) (from_void_value P.classes t) (keeps-used_in Q g r) (keeps-from_void Q P.classes t)
    action-stays (plain.operate o k r q) h = two-used r q (operated o k) (keeps-operated Q o k)
    action-stays (plain.unary o k r) h = keeps-then Q (used_in g r) (signed o k) (keeps-used_in Q g r) (keeps-signed Q o k)
    action-stays (plain.truth r) h = tested-of r truth_value
    action-stays (plain.logical_not r) h = tested-of r (λ b. truth_value (not b))
    action-stays (plain.pointer_operate o r q) h = two-used r q (pointer_op P.classes o) (keeps-pointers Q P.classes o)
    action-stays (plain.changed change r q) h = two-used r q (changed_value P.classes change) (keeps-changed Q P.classes change)
    action-stays (plain.store r q) h =
        keeps-then Q (place_in g r) _ (keeps-place_in Q g r)
        (λ p. keeps-then Q (used_in g q) (λ x. doing (write_place P.classes p x)) (keeps-used_in Q g q) (λ x. keeps-doing (write_place P.classes p x) (keeps-write P.classes p x)))
    action-stays (plain.declare i t) h = keeps-then Q (new_local i t) (λ o. gives (At (root o))) (keeps-new i t) (λ o. keeps-gives Q (At (root o)))
    action-stays (plain.first r q) h =
        keeps-then Q (place_in g r) _ (keeps-place_in Q g r)
        (λ p. keeps-then Q (held g q) (λ x. doing (settle P.classes p x)) (keeps-held Q g q) (λ x. keeps-doing (settle P.classes p x) (keeps-settle P.classes p x)))
    action-stays (plain.zeros r) h =
        keeps-then Q (place_in g r) (λ p. doing (fill_zeros P.classes p)) (keeps-place_in Q g r) (λ p. keeps-doing (fill_zeros P.classes p) (keeps-zeros P.classes p))
    action-stays (plain.bytes r b) h =
        keeps-then Q (place_in g r) _ (keeps-place_in Q g r) (λ p. keeps-at Q _ (λ s.
        keeps-next Q (valid (is_array (place_type P.classes s p))) _ (keeps-valid Q _)
        (keeps-next Q (valid (nat_le (length b) (element_count P.classes (place_type P.classes s p)))) _ (keeps-valid Q _)
        (keeps-next Q (fill_zeros P.classes p) (doing (write_bytes (character_kind (place_type P.classes s p)) p 0 b)) (keeps-zeros P.classes p) (keeps-doing (write_bytes (character_kind (place_type P.classes s p)) p 0 b) (keeps-bytes (character_kind (place_type P.classes s p)) p 0 b))))))
    action-stays (plain.finish t i) h = keeps-finish (calls again) P none t i
    action-stays (plain.call name t None is None) h = keeps-call again enters P name t is
    action-stays (plain.pointer_call None r t is None) h =
        keeps-then Q (used_in g r) (λ v. objects_of is >>= (λ ps. run_pointer (calls again) P None v ps None)) (keeps-used_in Q g r)
        (λ v. keeps-pointer-call again enters P v is)
    action-stays a h = absurd (let k = h in cc)

  -- ---- how statements end

  keeps-falling : (next : Registers → Act Flow) → ((g : Registers) → Keeps Q (next g)) → (flow : Flow) → Keeps Q (falling next flow)
  keeps-falling next k (Falls g) = k g
  keeps-falling next k (Breaks g) = keeps-gives Q (Breaks g)
  keeps-falling next k (Continues g) = keeps-gives Q (Continues g)
  keeps-falling next k (Returns v) = keeps-gives Q (Returns v)

  keeps-turning : (next : Registers → Act Flow) → ((g : Registers) → Keeps Q (next g)) → (flow : Flow) → Keeps Q (turning next flow)
  keeps-turning next k (Falls g) = k g
  keeps-turning next k (Continues g) = k g
  keeps-turning next k (Breaks g) = keeps-gives Q (Falls g)
  keeps-turning next k (Returns v) = keeps-gives Q (Returns v)

  keeps-leaving : (flow : Flow) → Keeps Q (leaving flow)
  keeps-leaving (Breaks g) = keeps-gives Q (Falls g)
  keeps-leaving (Falls g) = keeps-gives Q (Falls g)
  keeps-leaving (Continues g) = keeps-gives Q (Continues g)
  keeps-leaving (Returns v) = keeps-gives Q (Returns v)

  keeps-tick : Keeps Q tick
  keeps-tick = record { by = λ s w q. by_ticks s w q w.ticks }
    where
      by_ticks : (s : State) (w : World) → Q s → (n : ℕ) → Always Q (spend_of n w (λ w. Went (Gives (tt {0}) s) w))
      by_ticks s w q zero = record { by = tt }
      by_ticks s w q (suc n) = record { by = q }

  -- ---- statements

  mutual
    pub stays : (st : Plain) → simple st ≡ true → (g : Registers) → Keeps Q (does again P st g)
    stays (act a) h g = keeps-next Q (acts (calls again) P g a) (gives (Falls g)) (action-stays g a h) (keeps-gives Q (Falls g))
    stays (set r a) h g = keeps-then Q (acts (calls again) P g a) (λ v. gives (Falls (keep g r v))) (action-stays g a h) (λ v. keeps-gives Q (Falls (keep g r v)))
    stays (branch r ss ts) h g =
        let two = both (all_simple ss) (all_simple ts) h in
        keeps-then Q (used_in g r >>= is_true) (λ t. when t (all again P ss g) (all again P ts g)) (keeps-then Q (used_in g r) is_true (keeps-used_in Q g r) (keeps-true Q))
        (λ t. keeps-when Q t (all again P ss g) (all again P ts g) (all-stay ss two.0 g) (all-stay ts two.1 g))
    stays (loop ss ts) h g =
        let two = both (all_simple ss) (all_simple ts) h in
        keeps-next Q tick _ keeps-tick
        (keeps-then Q (all again P ss g) (λ flow. turning (λ k. all again P ts k >>= turning (λ j. again (turn ss ts j))) flow) (all-stay ss two.0 g)
        (keeps-turning (λ k. all again P ts k >>= turning (λ j. again (turn ss ts j)))
        (λ k. keeps-then Q (all again P ts k) (turning (λ j. again (turn ss ts j))) (all-stay ts two.1 k)
        (keeps-turning (λ j. again (turn ss ts j)) (λ j. turns ss ts j two.0 two.1)))))
    stays (switch r ss) h g =
        keeps-then Q (used_in g r >>= number_of) _ (keeps-then Q (used_in g r) number_of (keeps-used_in Q g r) (keeps-number Q))
        (λ z. keeps-then Q (when (has_case z ss) (from_case again P z ss g) (from_default again P ss g)) (λ flow. leaving flow)
        (keeps-when Q (has_case z ss) (from_case again P z ss g) (from_default again P ss g) (case-stays z ss h g) (default-stays ss h g)) keeps-leaving)
    stays (case_label z) h g = keeps-gives Q (Falls g)
    stays default_label h g = keeps-gives Q (Falls g)
    stays leave h g = keeps-gives Q (Breaks g)
    stays continue h g = keeps-gives Q (Continues g)
    stays (give None) h g = keeps-gives Q (Returns Nothing)
    stays (give (Some r)) h g = keeps-then Q (used_in g r) (λ v. gives (Returns v)) (keeps-used_in Q g r) (λ v. keeps-gives Q (Returns v))
    stays (parts ps) h g = absurd (let k = h in cc)

    pub all-stay : (ss : Plains) → all_simple ss ≡ true → (g : Registers) → Keeps Q (all again P ss g)
    all-stay nothing h g = keeps-gives Q (Falls g)
    all-stay (more st ss) h g =
        let two = both (simple st) (all_simple ss) h in
        keeps-then Q (does again P st g) (falling (λ k. all again P ss k)) (stays st two.0 g) (keeps-falling (λ k. all again P ss k) (λ k. all-stay ss two.1 k))

    case-stays : (z : ℤ) (ss : Plains) → all_simple ss ≡ true → (g : Registers) → Keeps Q (from_case again P z ss g)
    case-stays z nothing h g = keeps-gives Q (Falls g)
    case-stays z (more (case_label y) ss) h g =
        keeps-when Q (int_le y z && int_le z y) (all again P ss g) (from_case again P z ss g) (all-stay ss h g) (case-stays z ss h g)
    case-stays z (more st ss) h g = case-stays z ss (both (simple st) (all_simple ss) h).1 g

    default-stays : (ss : Plains) → all_simple ss ≡ true → (g : Registers) → Keeps Q (from_default again P ss g)
    default-stays nothing h g = keeps-gives Q (Falls g)
    default-stays (more default_label ss) h g = all-stay ss h g
    default-stays (more st ss) h g = default-stays ss (both (simple st) (all_simple ss) h).1 g

-- ---- functions

some-function : {f h : PlainFunction} → Some f ≡ Some h → f ≡ h
some-function e = cc

found-simple : (fs : List PlainFunction) → functions_simple fs ≡ true → (name : Name) (f : PlainFunction) → plain_named fs name ≡ Some f → function_simple f ≡ true
found-simple [] h name f e = absurd (let k = e in cc)
found-simple (x ∷ xs) h name f e = by_test (λ k. found-simple xs (both (function_simple x) (functions_simple xs) h).1 name f k) (bytes_eq x.name name) refl
  where
    by_test : (plain_named xs name ≡ Some f → function_simple f ≡ true) → (b : Bool) → bytes_eq x.name name ≡ b → function_simple f ≡ true
    by_test rest true k =
        subst (λ y. function_simple y ≡ true) (some-function (sym (ap (λ b. if b then Some x else plain_named xs name) k) ∙ e))
        (both (function_simple x) (functions_simple xs) h).0
    by_test rest false k = rest (sym (ap (λ b. if b then Some x else plain_named xs name) k) ∙ e)

module _ (So : State → Type 0) (classes : List Class) (place : Option Place) where
  keeps-begins : (role : Role) → is_plain role ≡ true → Keeps So (begins classes role place)
  keeps-begins plain_function h = keeps-gives So tt
  keeps-begins role h = absurd (let k = h in cc)

  keeps-ends : (role : Role) → is_plain role ≡ true → (before : State) → Keeps So (ends classes role place before)
  keeps-ends plain_function h before = keeps-gives So tt
  keeps-ends role h before = absurd (let k = h in cc)

  keeps-unbuilds : (again : core.Again) (P : Program) (role : Role) → is_plain role ≡ true → Keeps So (unbuilds again P role place)
  keeps-unbuilds again P plain_function h = keeps-gives So tt
  keeps-unbuilds again P role h = absurd (let k = h in cc)

  keeps-ended : (b : Bool) (flow : core.Flow) → Keeps So (ended_well b flow)
  keeps-ended true core.Falls = keeps-undefined So 16
  keeps-ended b flow = keeps-gives So tt

module _ (P : Program) (none : P.classes ≡ []) (fs : List PlainFunction) (are_simple : functions_simple fs ≡ true) where
  body-kept : (again : Again) → TurnsKept again → EntersKept again → (f : PlainFunction) → function_simple f ≡ true → Keeps Q (run_body again P f)
  body-kept again turns enters f h =
      let two = both (is_plain f.role) (all_simple f.body) h in
      keeps-at Q _ (λ before.
      keeps-next Q (begins P.classes f.role before.frame.this) _ (keeps-begins Q P.classes before.frame.this f.role two.0)
      (keeps-then Q (all again P f.body no_registers) _ (all-stay again turns enters P none f.body two.1 no_registers) (λ flow.
      keeps-next Q (ended_well (is_class (result_type f.type)) (core_flow flow)) _ (keeps-ended Q P.classes before.frame.this (is_class (result_type f.type)) (core_flow flow))
      (keeps-next Q (unbuilds (calls again) P f.role before.frame.this) _ (keeps-unbuilds Q P.classes before.frame.this (calls again) P f.role two.0)
      (keeps-next Q (ends P.classes f.role before.frame.this before) (gives flow) (keeps-ends Q P.classes before.frame.this f.role two.0 before) (keeps-gives Q flow))))))

  found-kept : (again : Again) → TurnsKept again → EntersKept again → (x : Option PlainFunction) → ((f : PlainFunction) → x ≡ Some f → function_simple f ≡ true)
      → Keeps Q (run_found again P x)
  found-kept again turns enters None h = keeps-malformed Q
  found-kept again turns enters (Some f) h = body-kept again turns enters f (h f refl)

  mutual
    turns-kept : (n : ℕ) → TurnsKept (runs P fs n)
    turns-kept zero ss ts g h k = record { by = λ s w q. record { by = tt } }
    turns-kept (suc n) ss ts g h k = stays (runs P fs n) (turns-kept n) (enters-kept n) P none (loop ss ts) (ap (λ b. b && all_simple ts) h ∙ k) g

    pub enters-kept : (n : ℕ) → EntersKept (runs P fs n)
    enters-kept zero f os = record { by = λ s w q. record { by = tt } }
    enters-kept (suc n) f os = found-kept (runs P fs n) (turns-kept n) (enters-kept n) (plain_named fs f.name) (found-simple fs are_simple f.name)

  pub named-kept : (n : ℕ) (name : Name) (os : List ℕ) → Keeps Q (run_named (calls (runs P fs n)) P name os None None)
  named-kept n name os = keeps-named (runs P fs n) (enters-kept n) P name os
