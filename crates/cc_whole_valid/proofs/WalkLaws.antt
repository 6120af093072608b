-- Walks, and what the checks of a definition find from a place on.
use Rattle.std.proofs.Common.{◌≡◌, ℕ, ◌+◌, Bool, true, false, not, Result, Ok, Err, refl, ap, sym, ◌∙◌, subst, arith}
use Rattle.std.specs.Prelude.{if◌then◌else◌}
use Rattle.cc_whole.specs.Fault.{Checked, Checks, holds, moved, checked_then, ◌before◌}
use Rattle.cc_whole_valid.specs.declared.stop.Stop.{Stop}
use Rattle.cc_whole_valid.specs.declared.stop.Stop.TheVariants as stop
use Rattle.cc_whole_valid.specs.Walk.{Walk, and_then, past, Fails}

-- a walk stops where its first part does
pub fails_then : {A B : Type 0} (r : Result (A × ℕ) Stop) (f : A → Walk B) (e : Stop) → Fails r e → Fails (and_then r f) e
fails_then r f (stop.Broken rule place) h = ap (λ x. and_then x f) h
fails_then r f stop.Memory h = tt

pub fails_by : {A : Type 0} (r s : Result (A × ℕ) Stop) (e : Stop) → r ≡ s → Fails r e → Fails s e
fails_by r s e same h = subst (λ x. Fails x e) same h

-- what is found from a place on, and behind this many landmarks
abbrev pub told : {A : Type 0} → ℕ → ℕ → Checked A → Result (A × ℕ) Stop
told at n (Ok a) = Ok (a, at + n)
told at n (Err f) = Err (stop.Broken f.rule (at + f.place))

pub told_past : (n at : ℕ) → past n at ≡ Ok (tt, at + n)
unfolding past
told_past n at = refl

pub told_moved : {A : Type 0} (at n m l : ℕ) (c : Checked A) → l ≡ n + m → told at l (moved n c) ≡ told (at + n) m c
told_moved at n m l (Ok a) e = ap (λ k. Ok (a, k)) (let h : at + l ≡ (at + n) + m = omega (arith, e) in h)
told_moved at n m l (Err f) e = ap (λ k. Err (stop.Broken f.rule k)) (let h : at + (n + f.place) ≡ (at + n) + f.place = omega arith in h)

-- the same, from the place behind those landmarks
pub told_back : {A : Type 0} (at n m : ℕ) (c : Checked A) → told (at + n) m c ≡ told at (n + m) (moved n c)
told_back at n m c = sym (told_moved at n m (n + m) c refl)

-- one part, and then what is made of it
pub told_then : {A B : Type 0} (at n l : ℕ) (c : Checked A) (g : A → Checked B) (r : Result (A × ℕ) Stop) (f : A → Walk B) → r ≡ told at n c
    → ((a : A) → f a (at + n) ≡ told at l (g a)) → and_then r f ≡ told at l (checked_then c g)
told_then at n l (Ok a) g r f e h = ap (λ x. and_then x f) e ∙ h a
told_then at n l (Err x) g r f e h = ap (λ y. and_then y f) e

-- one check, and then another
pub told_before : {B : Type 0} (at n l : ℕ) (c : Checks) (d : Checked B) (r : Result (Unit {0} × ℕ) Stop) (f : Unit {0} → Walk B) → r ≡ told at n c
    → f tt (at + n) ≡ told at l d → and_then r f ≡ told at l (c before d)
told_before at n l (Ok u) d r f e h = ap (λ x. and_then x f) e ∙ h
told_before at n l (Err x) d r f e h = ap (λ y. and_then y f) e

-- past some landmarks, and then a part behind them
pub told_behind : {B : Type 0} (at n m l : ℕ) (c : Checked B) (f : Unit {0} → Walk B) → l ≡ n + m → f tt (at + n) ≡ told (at + n) m c
    → and_then (past n at) f ≡ told at l (moved n c)
told_behind at n m l c f e h = ap (λ x. and_then x f) (told_past n at) ∙ (h ∙ sym (told_moved at n m l c e))

-- a test, and then a part
pub told_where : {B : Type 0} (b : Bool) (rule place at l p : ℕ) (c : Checked B) (r : Result (B × ℕ) Stop) → p ≡ at + place → r ≡ told at l c
    → (if b then r else Err (stop.Broken rule p)) ≡ told at l (holds b rule place before c)
told_where true rule place at l p c r e h = h
told_where false rule place at l p c r e h = ap (λ k. Err (stop.Broken rule k)) e

-- the same, where the part behind it may know that the test holds
pub told_where_known : {B : Type 0} (b : Bool) (rule place at l p : ℕ) (c : Checked B) (r : Result (B × ℕ) Stop) → p ≡ at + place
    → (b ≡ true → r ≡ told at l c) → (if b then r else Err (stop.Broken rule p)) ≡ told at l (holds b rule place before c)
told_where_known true rule place at l p c r e h = h refl
told_where_known false rule place at l p c r e h = ap (λ k. Err (stop.Broken rule k)) e

pub told_unless : {B : Type 0} (b : Bool) (rule place at l p : ℕ) (c : Checked B) (r : Result (B × ℕ) Stop) → p ≡ at + place → r ≡ told at l c
    → (if b then Err (stop.Broken rule p) else r) ≡ told at l (holds (not b) rule place before c)
told_unless true rule place at l p c r e h = ap (λ k. Err (stop.Broken rule k)) e
told_unless false rule place at l p c r e h = h

-- a test alone
pub told_holds : (b : Bool) (rule place at l p : ℕ) (r : Result (Unit {0} × ℕ) Stop) → p ≡ at + place → r ≡ Ok (tt, at + l)
    → (if b then r else Err (stop.Broken rule p)) ≡ told at l (holds b rule place)
told_holds true rule place at l p r e h = h
told_holds false rule place at l p r e h = ap (λ k. Err (stop.Broken rule k)) e

pub told_holds_not : (b : Bool) (rule place at l p : ℕ) (r : Result (Unit {0} × ℕ) Stop) → p ≡ at + place → r ≡ Ok (tt, at + l)
    → (if b then Err (stop.Broken rule p) else r) ≡ told at l (holds (not b) rule place)
told_holds_not true rule place at l p r e h = ap (λ k. Err (stop.Broken rule k)) e
told_holds_not false rule place at l p r e h = h
