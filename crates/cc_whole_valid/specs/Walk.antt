-- How the code goes through a tree: past its landmarks in the order of the text, up to the first broken rule.
use Rattle.std.specs.Prelude.{◌≡◌, ℕ, ◌+◌, Bool, if◌then◌else◌, Option, Some, None, Result, Ok, Err}
use Rattle.cc_whole.specs.Fault.{Checks}
use Rattle.cc_whole_valid.specs.declared.stop.Fault.{Fault}
use Rattle.cc_whole_valid.specs.declared.stop.Stop.{Stop}
use Rattle.cc_whole_valid.specs.declared.stop.Stop.TheVariants as stop

-- what is found from a place on, and the place behind it
abbrev pub Walk : Type 0 → Type 0
Walk A = ℕ → Result (A × ℕ) Stop

abbrev pub and_then : {A B : Type 0} → Result (A × ℕ) Stop → (A → Walk B) → Result (B × ℕ) Stop
and_then (Ok p) f = f p.0 p.1
and_then (Err e) f = Err e

infixl 10 ◌>>=◌
abbrev pub ◌>>=◌ : {A B : Type 0} → Walk A → (A → Walk B) → Walk B
w >>= f = λ at. and_then (w at) f

abbrev pub pure : {A : Type 0} → A → Walk A
pure a = λ at. Ok (a, at)

-- goes past so many landmarks
unfoldable pub past : ℕ → Walk (Unit {0})
past n = λ at. Ok (tt, at + n)

-- the rule is broken at this place
abbrev pub broken_at : {A : Type 0} → ℕ → ℕ → Walk A
broken_at rule place = λ at. Err (stop.Broken rule place)

-- where the test holds the walk goes on, else the rule is broken at this place
abbrev pub where_holds : {A : Type 0} → Bool → ℕ → ℕ → Walk A → Walk A
where_holds b rule place next = λ at. if b then next at else Err (stop.Broken rule place)

-- where the test holds the rule is broken at this place, else the walk goes on
abbrev pub unless : {A : Type 0} → Bool → ℕ → ℕ → Walk A → Walk A
unless b rule place next = λ at. if b then Err (stop.Broken rule place) else next at

-- the same broken rule, unless memory fails
abbrev pub Fails : {A : Type 0} → Result A Stop → Stop → Type 0
Fails walk (stop.Broken rule place) = walk ≡ Err (stop.Broken rule place)
Fails walk stop.Memory = Unit {0}

-- what a function that goes through a tree ensures, unless memory fails
abbrev pub Walks : {A : Type 0} → Result (A × ℕ) Stop → Result A Stop → ℕ → Type 0
Walks walk (Ok a) new = walk ≡ Ok (a, new)
Walks walk (Err e) new = Fails walk e

-- the same of a function whose value stands for another
abbrev pub WalksTo : {A B : Type 0} → (A → B) → Result (B × ℕ) Stop → Result A Stop → ℕ → Type 0
WalksTo f walk (Ok a) new = walk ≡ Ok (f a, new)
WalksTo f walk (Err e) new = Fails walk e

-- what the checks of a definition find, as the code tells it
abbrev pub fault_of : Checks → Option Fault
fault_of (Ok u) = None
fault_of (Err f) = Some (record { rule = f.rule; place = f.place })

-- a fault, where there is one
abbrev pub found_by : {A : Type 0} → Result A Stop → Option Fault
found_by (Ok a) = None
found_by (Err (stop.Broken rule place)) = Some (record { rule = rule; place = place })
found_by (Err stop.Memory) = None

-- this value, if the test holds
abbrev pub where_so : {A : Type 0} → Bool → A → Option A
where_so b a = if b then Some a else None
