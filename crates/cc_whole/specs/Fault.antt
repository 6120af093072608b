-- A broken rule of validity, and how checks follow one another in the order of the text.
use Rattle.std.specs.Prelude.{ℕ, ◌+◌, Bool, if◌then◌else◌, Result, Ok, Err}

-- a broken rule, 1 to 12, and its place: how many landmarks of the text stand before the one where it is broken
pub record Fault : Type 0 where
  pub rule : ℕ
  pub place : ℕ

-- what a part is found to be, or its first fault, with its place in the part
abbrev pub Checked : Type 0 → Type 0
Checked A = Result A Fault

abbrev pub Checks : Type 0
Checks = Checked (Unit {0})

abbrev pub fine : Checks
fine = Ok tt

abbrev pub broken : {A : Type 0} → ℕ → ℕ → Checked A
broken rule place = Err (record { rule = rule; place = place })

-- the rule holds at this place
abbrev pub holds : Bool → ℕ → ℕ → Checks
holds b rule place = if b then fine else broken rule place

-- the fault of a part before which so many landmarks stand
abbrev pub moved : {A : Type 0} → ℕ → Checked A → Checked A
moved n (Ok a) = Ok a
moved n (Err f) = broken f.rule (n + f.place)

-- one check, and then one of what it found
abbrev pub checked_then : {A B : Type 0} → Checked A → (A → Checked B) → Checked B
checked_then (Ok a) next = next a
checked_then (Err f) next = Err f

infixr 1 ◌before◌
-- one check, and then another
abbrev pub ◌before◌ : {A : Type 0} → Checks → Checked A → Checked A
◌before◌ (Ok u) next = next
◌before◌ (Err f) next = Err f
