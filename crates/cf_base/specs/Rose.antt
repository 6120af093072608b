-- Counts of faults on the outside.
use Rattle.std.specs.Prelude.{◌≡◌, ℕ, ◌+◌, ◌-◌, ◌^◌, ◌≤◌, min, Result, Ok, Err}

-- A count rose over a call: it is greater afterwards, or stands at the most that it can hold.
abbrev pub Rose : ℕ → ℕ → Type 0
Rose before now = min (before + 1) (2 ^ 64 - 1) ≤ now

-- A call raised its count where it failed, and left it as it was otherwise.
abbrev pub CountsFaults : {T E : Type 0} → ℕ → ℕ → Result T E → Type 0
CountsFaults before now (Ok value) = now ≡ before
CountsFaults before now (Err error) = Rose before now
