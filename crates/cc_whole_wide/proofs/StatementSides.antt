-- Statements and bodies that stand beside each other.
use Rattle.std.proofs.Common.{◌≡◌, ℕ, ◌+◌, Bool, true, false, not, ◌&&◌, ◌||◌, List, [], ◌∷◌, Option, Some, None, Ok, refl, ap, sym, ◌∙◌, subst, arith, length}
use Rattle.std.specs.Prelude.{◌==◌, ◌^◌, is_some, pos, negsuc, nat_lt, Err}
use Rattle.std.proofs.lemmas.Bool.{eqb-true}
use Rattle.std.proofs.lemmas.Bool.Decides.{nat_tests}
use Rattle.cc_whole.specs.declared.types.CType.{CType}
use Rattle.cc_whole.specs.declared.types.CConstant.{CConstant}
use Rattle.cc_whole.specs.declared.types.CConstant.TheVariants as int
use Rattle.cc_whole.specs.declared.types.CSignature.{CSignature}
use Rattle.cc_whole.specs.declared.types.CLocalType.TheVariants as «local»
use Rattle.cc_whole.specs.declared.statement.CLocal.{CLocal}
use Rattle.cc_whole.specs.Plain.{Place, Expression, Callee, by_pointer, Statement, assign, call, block, choose, loop, select, give, Statements, done, followed, SwitchItems, labelled, otherwise, stated, Body, body}
use Rattle.cc_whole.specs.Numbers.{fits_constant, label_of, is_size}
use Rattle.cc_whole.specs.Types.{same_type, is_function_pointer, local_type}
use Rattle.cc_whole.specs.Landmarks.{marks, place_marks, target_marks, signature_marks, callee_marks, marks_before, local_marks, locals_marks, statement_marks, body_marks}
use Rattle.cc_whole.specs.Fault.{Checked, Checks, fine, broken, holds, moved, checked_then, ◌before◌}
use Rattle.cc_whole.specs.Known.{Named, Known, is_in}
use Rattle.cc_whole.specs.Typed.{typed, typed_target}
use Rattle.cc_whole.specs.Statements.{assigned, stored_in, called_type, fits_stored, helper_may_call, calls_main, called_pointer, arguments, calls, condition, has_size, checked_locals, in_a_loop, in_a_switch, with_locals, Labels, no_labels, has_case, checked, checked_statements, checked_switch, checked_body}
use Rattle.cc_whole_wide.specs.Others.{later}
use Rattle.cc_whole_wide.proofs.FaultPlaces.{Inside, moved_inside, target_inside, stored_inside, some_callee, called_type_inside, pointer_inside, condition_inside, locals_inside, checked_inside, body_inside}
use Rattle.cc_whole_wide.proofs.Stopping.{Stopped, early, late, then_stopped, before_stopped, moved_stopped, passes_then, passes_before, test_stopped, same_test, fails_there, first_of, Beside, same, stops}
use Rattle.cc_whole_wide.proofs.ExpressionSides.{breaking, PlaceBeside, beside_target, tested, AllBeside, all_same, all_stop, as_many, CalleeBeside, callee_same, through}

and_right : (a b : Bool) → b ≡ false → (a && b) ≡ false
and_right true b e = e
and_right false b e = refl

-- one part, and another behind its landmarks
pub next_stopped : (n w : ℕ) (c g h : Checks) → Inside n c → Stopped w g h → Stopped (n + w) (c before moved n g) (c before moved n h)
next_stopped n w c g h inside behind = passes_before n (n + w) c (moved n g) (moved n h) inside (omega arith) (λ is. moved_stopped n w g h behind)

-- ---- assignments

assign_by : {p q : Option ℕ} {a c : Place} {e d : Expression} → Beside typed_target p a c → Beside typed q e d
    → Beside checked (first_of p (place_marks a) q) (assign a e) (assign c d)
assign_by (same a) (same e) = same (assign a e)
assign_by (same a) (stops w e d h) =
    stops (place_marks a + w) (assign a e) (assign a d)
    (λ k. passes_then (place_marks a) (place_marks a + w) (typed_target a k.names) _ _ (target_inside a k.names) (omega arith)
    (λ t is. moved_stopped (place_marks a) w (assigned t e k.names) (assigned t d k.names) (tested (stops w e d h) k.names _ _)))
assign_by {e = e} {d = d} (stops w a c h) q =
    stops w (assign a e) (assign c d) (λ k. then_stopped w (typed_target a k.names) (typed_target c k.names) _ _ (h k.names))

pub beside_assign : {p q : Option ℕ} {a c : Place} {e d : Expression} → PlaceBeside p a c → Beside typed q e d
    → Beside checked (first_of p (place_marks a) q) (assign a e) (assign c d)
beside_assign a e = assign_by (beside_target a) e

-- ---- calls

pub data TargetBeside : Option ℕ → Option Place → Option Place → Type 0 where
  nowhere : TargetBeside None None None
  somewhere : {o : Option ℕ} {a c : Place} → Beside typed_target o a c → TargetBeside o (Some a) (Some c)

-- a test that passed
pub passed : (b : Bool) (rule place : ℕ) → holds b rule place ≡ fine → b ≡ true
passed true rule place e = refl
passed false rule place e = absurd (cc)

-- as many arguments as parameters
counted : (n m l w : ℕ) (g h : Checks) → l ≡ m → (n ≡ m → Stopped w g h) → Stopped w (holds (n == m) 5 0 before g) (holds (n == l) 5 0 before h)
counted n m l w g h equal behind = subst (λ x. Stopped w (holds (n == m) 5 0 before g) (holds (n == x) 5 0 before h)) (sym equal) (by (n == m) refl)
  where
    by : (b : Bool) → (n == m) ≡ b → Stopped w (holds b 5 0 before g) (holds b 5 0 before h)
    by true is = behind (eqb-true n m is)
    by false is = early (record { rule = 5; place = 0 }) (omega arith) refl refl

-- arguments, behind what is called
call_arguments : (c : Callee) (w : ℕ) (es ds : List Expression) → length ds ≡ length es
    → ((ts : List CType) (k : List Named) → length ts ≡ length es → Stopped w (arguments ts es k) (arguments ts ds k)) → (stored : Option CType) (s : CSignature) (k : Known)
    → Stopped (callee_marks c + w) (calls stored s c es k) (calls stored s c ds k)
call_arguments c w es ds count h stored s k =
    let n = callee_marks c + w in
    test_stopped (fits_stored stored s.result) 4 0 n _ _ (omega arith)
    (counted (length s.parameters) (length es) (length ds) n _ _ count
    (λ many. test_stopped (not k.in_helper || helper_may_call c) 9 0 n _ _ (omega arith) (test_stopped (not (calls_main c)) 10 0 n _ _ (omega arith)
    (passes_before (callee_marks c) n (called_pointer c k.names) _ _ (pointer_inside c k.names) (omega arith)
    (λ is. moved_stopped (callee_marks c) w (arguments s.parameters es k.names) (arguments s.parameters ds k.names) (h s.parameters k.names many))))))

-- what is called through
call_through : (t : CSignature) (w : ℕ) (e d : Expression) (es ds : List Expression) → length ds ≡ length es → Beside typed (Some w) e d → (stored : Option CType) (s : CSignature)
    (k : Known) → Stopped (signature_marks t + w) (calls stored s (by_pointer t e) es k) (calls stored s (by_pointer t d) ds k)
call_through t w e d es ds count h stored s k =
    let n = signature_marks t + w in
    test_stopped (fits_stored stored s.result) 4 0 n _ _ (omega arith)
    (counted (length s.parameters) (length es) (length ds) n _ _ count
    (λ many. test_stopped (not k.in_helper || false) 9 0 n _ _ (omega arith)
    (before_stopped n (called_pointer (by_pointer t e) k.names) (called_pointer (by_pointer t d) k.names) _ _
    (moved_stopped (signature_marks t) w (checked_then (typed e k.names) (λ u. holds (is_function_pointer u) 3 0))
    (checked_then (typed d k.names) (λ u. holds (is_function_pointer u) 3 0)) (tested h k.names _ _)))))

abbrev pub Called : Type 0
Called = Callee × List Expression

abbrev pub called_so : Called → Option CType × Known → Checks
called_so x k = checked_then (called_type x.0 k.1.names) (λ s. calls k.0 s x.0 x.1 k.1)

pub beside_called : {p q : Option ℕ} {c d : Callee} {es ds : List Expression} → CalleeBeside p c d → AllBeside q es ds
    → Beside called_so (first_of p (callee_marks c) q) (c, es) (d, ds)
beside_called (callee_same c) (all_same es) = same (c, es)
beside_called (callee_same c) (all_stop w es ds count h) =
    stops (callee_marks c + w) (c, es) (c, ds)
    (λ k. passes_then (callee_marks c) (callee_marks c + w) (called_type c k.1.names) _ _ (called_type_inside (callee_marks c) c k.1.names (some_callee c)) (omega arith)
    (λ s is. call_arguments c w es ds count h k.0 s k.1))
beside_called {es = es} {ds = ds} (through s w e d h) q =
    stops (signature_marks s + w) (by_pointer s e, es) (by_pointer s d, ds) (λ k. call_through s w e d es ds (as_many q) h k.0 s k.1)

pub beside_call : {p q : Option ℕ} {a c : Option Place} {x y : Called} → TargetBeside p a c → Beside called_so q x y
    → Beside checked (first_of p (target_marks a) q) (call a x.0 x.1) (call c y.0 y.1)
beside_call nowhere (same x) = same (call None x.0 x.1)
beside_call nowhere (stops w x y h) = stops (0 + w) (call None x.0 x.1) (call None y.0 y.1) (λ k. moved_stopped 0 w (called_so x (None, k)) (called_so y (None, k)) (h (None, k)))
beside_call (somewhere (same a)) (same x) = same (call (Some a) x.0 x.1)
beside_call (somewhere (same a)) (stops w x y h) =
    stops (place_marks a + w) (call (Some a) x.0 x.1) (call (Some a) y.0 y.1)
    (λ k. passes_then (place_marks a) (place_marks a + w) (stored_in (Some a) k.names) _ _ (stored_inside (Some a) k.names) (omega arith)
    (λ stored is. moved_stopped (place_marks a) w (called_so x (stored, k)) (called_so y (stored, k)) (h (stored, k))))
beside_call {x = x} {y = y} (somewhere (stops w a c h)) q =
    stops w (call (Some a) x.0 x.1) (call (Some c) y.0 y.1)
    (λ k. then_stopped w (stored_in (Some a) k.names) (stored_in (Some c) k.names) _ _
    (then_stopped w (typed_target a k.names) (typed_target c k.names) _ _ (h k.names)))

-- ---- results and locals

pub beside_give : {o : Option ℕ} {e d : Expression} → Beside typed o e d → Beside checked (later 1 o) (give (Some e)) (give (Some d))
beside_give (same e) = same (give (Some e))
beside_give (stops w e d h) =
    stops (1 + w) (give (Some e)) (give (Some d))
    (λ k. test_stopped (is_some k.result) 6 0 (1 + w) _ _ (omega arith)
    (then_stopped (1 + w) (moved 1 (typed e k.names)) (moved 1 (typed d k.names)) _ _ (moved_stopped 1 w (typed e k.names) (typed d k.names) (h k.names))))

-- the constant 0
abbrev pub nought : CConstant
nought = int.Signed (pos 0)

-- a constant that does not fit is no number of elements
pub no_size : (c : CConstant) → fits_constant c ≡ false → is_size c ≡ false
no_size (int.Signed (pos n)) wide = and_right (nat_lt 0 n) (nat_lt n (2 ^ 22 + 1)) (grind (arith, nat_tests))
no_size (int.Signed (negsuc n)) wide = refl
no_size (int.Unsigned n) wide = and_right (nat_lt 0 n) (nat_lt n (2 ^ 22 + 1)) (grind (arith, nat_tests))

pub wide_local : (name : List ℕ) (c : CConstant) (xs ys : List CLocal) → fits_constant c ≡ false
    → Beside checked_locals (Some 2) (record { ty = «local».Ints c; name = name } ∷ xs) (record { ty = «local».Ints nought; name = name } ∷ ys)
wide_local name c xs ys wide =
    stops 2 (record { ty = «local».Ints c; name = name } ∷ xs) (record { ty = «local».Ints nought; name = name } ∷ ys)
    (λ b. test_stopped (not (is_in b name)) 2 1 2 _ _ (omega arith) (before_stopped 2 (holds (is_size c) 11 2) (holds (is_size nought) 11 2)
    (moved 3 (checked_locals xs (name ∷ b))) (moved 3 (checked_locals ys (name ∷ b)))
    (fails_there (is_size c) (is_size nought) 2 (no_size c wide) refl)))

pub next_local : (x : CLocal) {o : Option ℕ} {xs ys : List CLocal} → Beside checked_locals o xs ys → Beside checked_locals (later (local_marks x) o) (x ∷ xs) (x ∷ ys)
next_local x (same xs) = same (x ∷ xs)
next_local x (stops w xs ys h) =
    let t = local_type x.ty in
    stops (local_marks x + w) (x ∷ xs) (x ∷ ys)
    (λ b. test_stopped (not (is_in b x.name)) 2 (marks_before t) (local_marks x + w) _ _ (omega arith)
    (test_stopped (has_size t) 11 (marks_before t + 1) (local_marks x + w) _ _ (omega arith)
    (moved_stopped (local_marks x) w (checked_locals xs (x.name ∷ b)) (checked_locals ys (x.name ∷ b)) (h (x.name ∷ b)))))

-- ---- statements

pub beside_followed : {p q : Option ℕ} {s t : Statement} {a b : Statements} → Beside checked p s t → Beside checked_statements q a b
    → Beside checked_statements (first_of p (statement_marks s) q) (followed s a) (followed t b)
beside_followed (same s) (same a) = same (followed s a)
beside_followed (same s) (stops w a b h) =
    stops (statement_marks s + w) (followed s a) (followed s b)
    (λ k. next_stopped (statement_marks s) w (checked s k) (checked_statements a k) (checked_statements b k) (checked_inside s k) (h k))
beside_followed {a = a} {b = b} (stops w s t h) q =
    stops w (followed s a) (followed t b) (λ k. before_stopped w (checked s k) (checked t k) _ _ (h k))

pub beside_body : {p q : Option ℕ} {xs ys : List CLocal} {a b : Statements} → Beside checked_locals p xs ys → Beside checked_statements q a b
    → Beside checked_body (first_of p (locals_marks xs) q) (body xs a) (body ys b)
beside_body (same xs) (same a) = same (body xs a)
beside_body (same xs) (stops w a b h) =
    stops (locals_marks xs + w) (body xs a) (body xs b)
    (λ k. next_stopped (locals_marks xs) w (checked_locals xs []) (checked_statements a (with_locals xs k)) (checked_statements b (with_locals xs k)) (locals_inside xs [])
    (h (with_locals xs k)))
beside_body {a = a} {b = b} (stops w xs ys h) q =
    stops w (body xs a) (body ys b) (λ k. before_stopped w (checked_locals xs []) (checked_locals ys []) _ _ (h []))

pub beside_block : {o : Option ℕ} {b c : Body} → Beside checked_body o b c → Beside checked o (block b) (block c)
beside_block (same b) = same (block b)
beside_block (stops w b c h) = stops w (block b) (block c) (λ k. h k)

pub beside_loop : {o : Option ℕ} {b c : Body} → Beside checked_body o b c → Beside checked (later 1 o) (loop b) (loop c)
beside_loop (same b) = same (loop b)
beside_loop (stops w b c h) =
    stops (1 + w) (loop b) (loop c) (λ k. moved_stopped 1 w (checked_body b (in_a_loop k)) (checked_body c (in_a_loop k)) (h (in_a_loop k)))

-- a condition behind a word
condition_passes : (e : Expression) (k : List Named) (n : ℕ) (g h : Checks) → Stopped n g h
    → Stopped (1 + (marks e + n)) (moved 1 (condition e k) before moved (1 + marks e) g) (moved 1 (condition e k) before moved (1 + marks e) h)
condition_passes e k n g h behind =
    passes_before (1 + marks e) (1 + (marks e + n)) (moved 1 (condition e k)) (moved (1 + marks e) g) (moved (1 + marks e) h)
    (moved_inside 1 (marks e) (1 + marks e) (condition e k) (omega arith) (condition_inside e k)) (omega arith)
    (λ is. subst (λ m. Stopped m (moved (1 + marks e) g) (moved (1 + marks e) h)) same (moved_stopped (1 + marks e) n g h behind))
  where
    same : (1 + marks e) + n ≡ 1 + (marks e + n)
    same = omega arith

condition_stops : (e d : Expression) (w : ℕ) → Beside typed (Some w) e d → (k : List Named) (g h : Checks)
    → Stopped (1 + w) (moved 1 (condition e k) before g) (moved 1 (condition d k) before h)
condition_stops e d w b k g h =
    before_stopped (1 + w) (moved 1 (condition e k)) (moved 1 (condition d k)) g h (moved_stopped 1 w (condition e k) (condition d k) (tested b k _ _))

abbrev pub switch_so : SwitchItems → Labels × Known → Checks
switch_so items k = checked_switch items k.0 k.1

pub beside_select : {p q : Option ℕ} {e d : Expression} {a b : SwitchItems} → Beside typed p e d → Beside switch_so q a b
    → Beside checked (later 1 (first_of p (marks e) q)) (select e a) (select d b)
beside_select (same e) (same a) = same (select e a)
beside_select (same e) (stops w a b h) =
    stops (1 + (marks e + w)) (select e a) (select e b)
    (λ k. condition_passes e k.names w (checked_switch a no_labels (in_a_switch k)) (checked_switch b no_labels (in_a_switch k)) (h (no_labels, in_a_switch k)))
beside_select {a = a} {b = b} (stops w e d h) q =
    stops (1 + w) (select e a) (select d b) (λ k. condition_stops e d w (stops w e d h) k.names _ _)

-- two bodies, one behind the other
abbrev pub Bodies : Type 0
Bodies = Body × Body

abbrev pub bodies_so : Bodies → Known → Checks
bodies_so x k = checked_body x.0 k before moved (body_marks x.0) (checked_body x.1 k)

pub beside_bodies : {p q : Option ℕ} {a b c d : Body} → Beside checked_body p a b → Beside checked_body q c d
    → Beside bodies_so (first_of p (body_marks a) q) (a, c) (b, d)
beside_bodies (same a) (same c) = same (a, c)
beside_bodies (same a) (stops w c d h) =
    stops (body_marks a + w) (a, c) (a, d) (λ k. next_stopped (body_marks a) w (checked_body a k) (checked_body c k) (checked_body d k) (body_inside a k) (h k))
beside_bodies {c = c} {d = d} (stops w a b h) q = stops w (a, c) (b, d) (λ k. before_stopped w (checked_body a k) (checked_body b k) _ _ (h k))

-- faults of parts behind as many landmarks
moved_twice : {A : Type 0} (n m : ℕ) (c : Checked A) → moved n (moved m c) ≡ moved (n + m) c
moved_twice n m (Ok a) = refl
moved_twice n m (Err f) = let same : n + (m + f.place) ≡ (n + m) + f.place = omega arith in ap (λ p. broken f.rule p) same

moved_before : (n : ℕ) (c d : Checks) → moved n (c before d) ≡ (moved n c before moved n d)
moved_before n (Ok u) d = refl
moved_before n (Err f) d = refl

both_bodies : (n : ℕ) (x : Bodies) (k : Known) → moved (1 + n) (bodies_so x k) ≡ (moved (1 + n) (checked_body x.0 k) before moved (1 + (n + body_marks x.0)) (checked_body x.1 k))
both_bodies n x k =
    moved_before (1 + n) (checked_body x.0 k) (moved (body_marks x.0) (checked_body x.1 k))
    ∙ ap (λ c. moved (1 + n) (checked_body x.0 k) before c) (moved_twice (1 + n) (body_marks x.0) (checked_body x.1 k) ∙ ap (λ m. moved m (checked_body x.1 k)) same)
  where
    same : (1 + n) + body_marks x.0 ≡ 1 + (n + body_marks x.0)
    same = omega arith

chosen : (e : Expression) (x : Bodies) (k : Known) → checked (choose e x.0 x.1) k ≡ (moved 1 (condition e k.names) before moved (1 + marks e) (bodies_so x k))
chosen e x k = ap (λ c. moved 1 (condition e k.names) before c) (sym (both_bodies (marks e) x k))

pub beside_choose : {p q : Option ℕ} {e d : Expression} {x y : Bodies} → Beside typed p e d → Beside bodies_so q x y
    → Beside checked (later 1 (first_of p (marks e) q)) (choose e x.0 x.1) (choose d y.0 y.1)
beside_choose (same e) (same x) = same (choose e x.0 x.1)
beside_choose (same e) (stops w x y h) =
    stops (1 + (marks e + w)) (choose e x.0 x.1) (choose e y.0 y.1)
    (λ k. subst (λ c. Stopped (1 + (marks e + w)) c (checked (choose e y.0 y.1) k)) (sym (chosen e x k))
    (subst (Stopped (1 + (marks e + w)) (moved 1 (condition e k.names) before moved (1 + marks e) (bodies_so x k))) (sym (chosen e y k))
    (condition_passes e k.names w (bodies_so x k) (bodies_so y k) (h k))))
beside_choose {x = x} {y = y} (stops w e d h) q =
    stops (1 + w) (choose e x.0 x.1) (choose d y.0 y.1) (λ k. condition_stops e d w (stops w e d h) k.names _ _)

-- ---- labels

pub next_label : (c : CConstant) {o : Option ℕ} {a b : SwitchItems} → Beside switch_so o a b → Beside switch_so (later 2 o) (labelled c a) (labelled c b)
next_label c (same a) = same (labelled c a)
next_label c (stops w a b h) =
    stops (2 + w) (labelled c a) (labelled c b)
    (λ k. let more = record k.0 { cases = label_of c ∷ k.0.cases } in
    test_stopped (not (has_case k.0.cases (label_of c))) 8 0 (2 + w) _ _ (omega arith) (test_stopped (fits_constant c) 11 1 (2 + w) _ _ (omega arith)
    (moved_stopped 2 w (checked_switch a more k.1) (checked_switch b more k.1) (h (more, k.1)))))

pub next_default : {o : Option ℕ} {a b : SwitchItems} → Beside switch_so o a b → Beside switch_so (later 1 o) (otherwise a) (otherwise b)
next_default (same a) = same (otherwise a)
next_default (stops w a b h) =
    stops (1 + w) (otherwise a) (otherwise b)
    (λ k. let more = record k.0 { has_default = true } in
    test_stopped (not k.0.has_default) 8 0 (1 + w) _ _ (omega arith) (moved_stopped 1 w (checked_switch a more k.1) (checked_switch b more k.1) (h (more, k.1))))

pub beside_stated : {p q : Option ℕ} {s t : Statement} {a b : SwitchItems} → Beside checked p s t → Beside switch_so q a b
    → Beside switch_so (first_of p (statement_marks s) q) (stated s a) (stated t b)
beside_stated (same s) (same a) = same (stated s a)
beside_stated (same s) (stops w a b h) =
    stops (statement_marks s + w) (stated s a) (stated s b)
    (λ k. next_stopped (statement_marks s) w (checked s k.1) (checked_switch a k.0 k.1) (checked_switch b k.0 k.1) (checked_inside s k.1) (h k))
beside_stated {a = a} {b = b} (stops w s t h) q =
    stops w (stated s a) (stated t b) (λ k. before_stopped w (checked s k.1) (checked t k.1) _ _ (h k.1))

-- a statement that breaks V3
abbrev pub breaks : Statement
breaks = choose breaking (body [] done) (body [] done)

-- a label of the same 32 bits, and what breaks V3 behind it
pub wide_label : (c d : CConstant) (a b : SwitchItems) → fits_constant c ≡ false → fits_constant d ≡ true → label_of d ≡ label_of c
    → Beside switch_so (Some 1) (labelled c a) (labelled d (stated breaks b))
unfolding same_type
wide_label c d a b wide fit equal =
    stops 1 (labelled c a) (labelled d (stated breaks b))
    (λ k. let more = record k.0 { cases = label_of c ∷ k.0.cases } in
    let others = record k.0 { cases = label_of d ∷ k.0.cases } in
    same_test (not (has_case k.0.cases (label_of c))) (not (has_case k.0.cases (label_of d))) 8 0 1 _ _
    (ap (λ n. not (has_case k.0.cases n)) (sym equal)) (omega arith)
    (late (record { rule = 3; place = 4 }) (omega arith) (ap (λ x. holds x 11 1 before moved 2 (checked_switch a more k.1)) wide)
    (ap (λ x. holds x 11 1 before moved 2 (checked_switch (stated breaks b) others k.1)) fit)))
