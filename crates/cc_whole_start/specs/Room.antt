-- The bytes of the blocks of a memory.
use Rattle.std.specs.Prelude.{ℕ, zero, suc, ◌+◌, Option, Some, None}
use Rattle.cc_whole_memory.specs.Blocks.{Block, Memory}

-- a block that has ended has none
abbrev pub bytes_in : Option Block → ℕ
bytes_in None = 0
bytes_in (Some x) = x.size

-- of the first so many blocks
abbrev pub bytes_below : ℕ → (ℕ → Option Block) → ℕ
bytes_below zero blocks = 0
bytes_below (suc k) blocks = bytes_in (blocks k) + bytes_below k blocks

-- of all blocks
abbrev pub bytes_of_all : Memory → ℕ
bytes_of_all m = bytes_below m.next m.block
