-- Two checks that stop: where a constant does not fit, and where another stands in its place.
use Rattle.std.proofs.Common.{◌≡◌, ℕ, suc, ◌+◌, ◌<◌, ◌≤◌, Bool, true, false, Option, Some, None, Ok, Err, refl, ap, subst, arith}
use Rattle.cc_whole.specs.Fault.{Fault, Checked, Checks, fine, broken, holds, moved, checked_then, ◌before◌}
use Rattle.cc_whole_wide.specs.Others.{later}
use Rattle.cc_whole_wide.proofs.FaultPlaces.{Inside}

-- Both checks stop. What does not fit stands first at this place: where the second stops up to there the first stops so too, and else the first finds V11 there.
pub data Stopped {A : Type 0} (w : ℕ) (c d : Checked A) : Type 0 where
  early : (f : Fault) → f.place ≤ w → c ≡ Err f → d ≡ Err f → Stopped w c d
  late : (f : Fault) → w < f.place → c ≡ broken 11 w → d ≡ Err f → Stopped w c d

pub then_stopped : {A B : Type 0} (w : ℕ) (c d : Checked A) (g h : A → Checked B) → Stopped w c d → Stopped w (checked_then c g) (checked_then d h)
then_stopped w c d g h (early f p e k) = early f p (ap (λ x. checked_then x g) e) (ap (λ x. checked_then x h) k)
then_stopped w c d g h (late f p e k) = late f p (ap (λ x. checked_then x g) e) (ap (λ x. checked_then x h) k)

pub before_stopped : {A : Type 0} (w : ℕ) (c d : Checks) (g h : Checked A) → Stopped w c d → Stopped w (c before g) (d before h)
before_stopped w c d g h (early f p e k) = early f p (ap (λ x. x before g) e) (ap (λ x. x before h) k)
before_stopped w c d g h (late f p e k) = late f p (ap (λ x. x before g) e) (ap (λ x. x before h) k)

pub moved_stopped : {A : Type 0} (n w : ℕ) (c d : Checked A) → Stopped w c d → Stopped (n + w) (moved n c) (moved n d)
moved_stopped n w c d (early f p e k) = early (record { rule = f.rule; place = n + f.place }) (omega (arith, p)) (ap (moved n) e) (ap (moved n) k)
moved_stopped n w c d (late f p e k) = late (record { rule = f.rule; place = n + f.place }) (omega (arith, p)) (ap (moved n) e) (ap (moved n) k)

-- a check that both do first, before the place
pub passes_then : {A B : Type 0} (n w : ℕ) (c : Checked A) (g h : A → Checked B) → Inside n c → n ≤ suc w → ((a : A) → c ≡ Ok a → Stopped w (g a) (h a))
    → Stopped w (checked_then c g) (checked_then c h)
passes_then n w (Ok a) g h inside small next = next a refl
passes_then n w (Err f) g h inside small next = early f (omega (arith, inside, small)) refl refl

pub passes_before : {A : Type 0} (n w : ℕ) (c : Checks) (g h : Checked A) → Inside n c → n ≤ suc w → (c ≡ fine → Stopped w g h) → Stopped w (c before g) (c before h)
passes_before n w (Ok u) g h inside small next = next refl
passes_before n w (Err f) g h inside small next = early f (omega (arith, inside, small)) refl refl

pub test_stopped : {A : Type 0} (b : Bool) (rule place w : ℕ) (g h : Checked A) → place ≤ w → Stopped w g h → Stopped w (holds b rule place before g) (holds b rule place before h)
test_stopped true rule place w g h small next = next
test_stopped false rule place w g h small next = early (record { rule = rule; place = place }) small refl refl

-- the same test for both
pub same_test : {A : Type 0} (b c : Bool) (rule place w : ℕ) (g h : Checked A) → b ≡ c → place ≤ w → Stopped w g h
    → Stopped w (holds b rule place before g) (holds c rule place before h)
same_test b c rule place w g h same small next =
    subst (λ x. Stopped w (holds b rule place before g) (holds x rule place before h)) same (test_stopped b rule place w g h small next)

-- what fails at the place in both
pub fails_there : (b c : Bool) (w : ℕ) → b ≡ false → c ≡ false → Stopped w (holds b 11 w) (holds c 11 w)
fails_there b c w e k = early (record { rule = 11; place = w }) (omega arith) (ap (λ x. holds x 11 w) e) (ap (λ x. holds x 11 w) k)

-- ---- trees that stand beside each other

-- in one part, or else in the next
abbrev pub first_of : Option ℕ → ℕ → Option ℕ → Option ℕ
first_of None n o = later n o
first_of (Some w) n o = Some w

-- The same tree where all constants fit, and else one whose check stops so.
pub data Beside {X K A : Type 0} (check : X → K → Checked A) : Option ℕ → X → X → Type 0 where
  same : (x : X) → Beside check None x x
  stops : (w : ℕ) (x y : X) → ((k : K) → Stopped w (check x k) (check y k)) → Beside check (Some w) x y
