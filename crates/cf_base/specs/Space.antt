-- Bytes in memory with their room from the start.
use Rattle.std.specs.Prelude.{ℕ, ◌+◌, nat_le, Bool, if◌then◌else◌, List, [], ◌++◌, length}

pub record Space : Type 0 where
  pub cap : ℕ
  pub bytes : List ℕ

-- room for so many bytes, with none in it
abbrev pub empty_space : ℕ → Space
empty_space cap = record { cap = cap; bytes = [] }

abbrev pub fits : List ℕ → Space → Bool
fits piece space = nat_le (length space.bytes + length piece) space.cap

-- a piece is added where there is room for the whole of it
abbrev pub with_piece : List ℕ → Space → Space
with_piece piece space = if fits piece space then record { cap = space.cap; bytes = space.bytes ++ piece } else space
