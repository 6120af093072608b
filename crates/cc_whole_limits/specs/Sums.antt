-- Sums, and sums that end at the greatest number of 64 bits.
use Rattle.std.specs.Prelude.{ℕ, ◌+◌, ◌-◌, ◌^◌, min}

abbrev pub Sum : Type 0
Sum = ℕ → ℕ → ℕ

abbrev pub plus : Sum
plus a b = a + b

abbrev pub capped : ℕ → ℕ
capped n = min n (2 ^ 64 - 1)

abbrev pub capped_plus : Sum
capped_plus a b = capped (a + b)
