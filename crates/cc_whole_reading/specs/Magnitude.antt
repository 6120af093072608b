-- The numbers of 32 bits.
use Rattle.std.specs.Prelude.{ℕ, nat_le, if◌then◌else◌, Option, Some, None}

abbrev pub up_to_most : ℕ → Option ℕ
up_to_most n = if nat_le n 4294967295 then Some n else None
