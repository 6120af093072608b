-- Checks that find, where other checks find something, the same.
use Rattle.std.proofs.Common.{◌≡◌, ℕ, Bool, true, false, Ok, Err, refl, ap, ◌∙◌}
use Rattle.cc_whole.specs.ValidUnit.{keeps}
use Rattle.cc_whole.specs.Fault.{Checked, Checks, fine, broken, holds, moved, checked_then, ◌before◌}

-- what the first finds, the second finds too
pub record Good {A : Type 0} (c d : Checked A) : Type 0 where
  pub finds : (a : A) → c ≡ Ok a → d ≡ Ok a

pub same : {A : Type 0} (c : Checked A) → Good c c
same c = record { finds = λ a e. e }

pub never : {A : Type 0} (rule place : ℕ) (d : Checked A) → Good (broken rule place) d
never rule place d = record { finds = λ a e. absurd (cc) }

moved_on : {A : Type 0} (n : ℕ) (c : Checked A) (a : A) → c ≡ Ok a → moved n c ≡ Ok a
moved_on n c a e = ap (moved n) e

moved_back : {A : Type 0} (n : ℕ) (c : Checked A) (a : A) → moved n c ≡ Ok a → c ≡ Ok a
moved_back n (Ok b) a e = e
moved_back n (Err f) a e = absurd (cc)

pub good_moved : {A : Type 0} {c d : Checked A} (m n : ℕ) → Good c d → Good (moved m c) (moved n d)
good_moved {c = c} {d = d} m n g = record { finds = λ a e. moved_on n d a (g.finds a (moved_back m c a e)) }

pub good_before : {A : Type 0} {c d : Checks} {x y : Checked A} → Good c d → Good x y → Good (c before x) (d before y)
good_before {A} {c} {d} {x} {y} g h = record { finds = λ a e. go c refl a e }
  where
    go : (b : Checks) → c ≡ b → (a : A) → (b before x) ≡ Ok a → (d before y) ≡ Ok a
    go (Ok u) is a e = ap (λ z. z before y) (g.finds u is) ∙ h.finds a e
    go (Err f) is a e = absurd (cc)

pub good_then : {A B : Type 0} {c d : Checked A} {f g : A → Checked B} → Good c d → ((a : A) → Good (f a) (g a)) → Good (checked_then c f) (checked_then d g)
good_then {A} {B} {c} {d} {f} {g} h k = record { finds = λ a e. go c refl a e }
  where
    go : (b : Checked A) → c ≡ b → (a : B) → checked_then b f ≡ Ok a → checked_then d g ≡ Ok a
    go (Ok u) is a e = ap (λ z. checked_then z g) (h.finds u is) ∙ (k u).finds a e
    go (Err f) is a e = absurd (cc)

pub good_holds : {b c : Bool} (rule m n : ℕ) → (b ≡ true → c ≡ true) → Good (holds b rule m) (holds c rule n)
good_holds {b} {c} rule m n h = record { finds = λ u e. go b refl u e }
  where
    go : (t : Bool) → b ≡ t → (u : Unit {0}) → holds t rule m ≡ Ok u → holds c rule n ≡ Ok u
    go true is u e = ap (λ z. holds z rule n) (h is) ∙ e
    go false is u e = absurd (cc)

-- ---- what a check that finds nothing tells

pub holds_true : (b : Bool) (rule n : ℕ) → holds b rule n ≡ fine → b ≡ true
holds_true true rule n e = refl
holds_true false rule n e = absurd (cc)

pub true_holds : (b : Bool) (rule n : ℕ) → b ≡ true → holds b rule n ≡ fine
true_holds b rule n e = ap (λ z. holds z rule n) e

pub both_fine : (c d : Checks) → c ≡ fine → d ≡ fine → (c before d) ≡ fine
both_fine c d e f = ap (λ z. z before d) e ∙ f

pub first_fine : {A : Type 0} (c : Checks) (d : Checked A) (a : A) → (c before d) ≡ Ok a → c ≡ fine
first_fine (Ok u) d a e = refl
first_fine (Err f) d a e = absurd (cc)

pub second_fine : {A : Type 0} (c : Checks) (d : Checked A) (a : A) → (c before d) ≡ Ok a → d ≡ Ok a
second_fine (Ok u) d a e = e
second_fine (Err f) d a e = absurd (cc)

pub moved_fine : (n : ℕ) (c : Checks) → c ≡ fine → moved n c ≡ fine
moved_fine n c e = moved_on n c tt e

pub fine_moved : (n : ℕ) (c : Checks) → moved n c ≡ fine → c ≡ fine
fine_moved n c e = moved_back n c tt e

pub keeps_fine : (c : Checks) → keeps c ≡ true → c ≡ fine
keeps_fine (Ok u) e = refl
keeps_fine (Err f) e = absurd (cc)
