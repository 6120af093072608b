-- Which calls on an object in memory are to fail, by their numbers from 1.
use Rattle.std.specs.Prelude.{◌≡◌, ◌⊎◌, ℕ, Bool, true, false, ◌==◌, ◌+◌, ◌-◌, ◌^◌, min, List, Option, None, Result, Ok, Err}
use Rattle.std.specs.List.{list_any}
use Rattle.cf_base.specs.declared.files.ReadErr.{ReadErr}
use Rattle.cf_base.specs.declared.files.ReadErr.TheVariants as read
use Rattle.cf_base.specs.declared.files.WriteErr.{WriteErr}
use Rattle.cf_base.specs.declared.files.WriteErr.TheVariants as write

pub record Plan : Type 0 where
  pub fail : List ℕ
  pub next : ℕ

-- the calls of these numbers fail, and none was made so far
abbrev pub plan_of : List ℕ → Plan
plan_of fail = record { fail = fail; next = 1 }

-- a call was made; past 2^64 calls are not counted
abbrev pub one_later : Plan → Plan
one_later plan = record { fail = plan.fail; next = min (plan.next + 1) (2 ^ 64 - 1) }

-- whether the next call is to fail
abbrev pub fails_next : Plan → Bool
fails_next plan = list_any (λ n. n == plan.next) plan.fail

-- A read fails where that is planned, or where there is no file of the name.
abbrev pub ReadsByPlan : {T : Type 0} → Bool → Option (List ℕ) → Result T ReadErr → Type 0
ReadsByPlan planned held (Ok bytes) = planned ≡ false
ReadsByPlan planned held (Err read.Failed) = (planned ≡ true) ⊎ (held ≡ None)
ReadsByPlan planned held (Err read.TooLong) = planned ≡ false
ReadsByPlan planned held (Err read.Memory) = Unit {0}

-- A write fails exactly where that is planned.
abbrev pub WritesByPlan : {T : Type 0} → Bool → Result T WriteErr → Type 0
WritesByPlan planned (Ok value) = planned ≡ false
WritesByPlan planned (Err write.Failed) = planned ≡ true
WritesByPlan planned (Err write.Memory) = Unit {0}
