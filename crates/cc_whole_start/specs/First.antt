-- The number of the first of some new blocks.
use Rattle.std.specs.Prelude.{ℕ, zero, suc}
use Rattle.cc_whole_memory.specs.Blocks.{Memory}

-- of so many blocks that are made in a memory; 0 where there is none
abbrev pub first_of : ℕ → Memory → ℕ
first_of zero m = 0
first_of (suc k) m = m.next
