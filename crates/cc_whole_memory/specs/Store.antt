-- The runner's memory as a memory, and its answers as answers of the definitions, which know an act by its number.
use Rattle.std.specs.Prelude.{ℕ, ◌+◌, ◌≡◌, ◌≤◌, ◌<◌, true, if◌then◌else◌, List, length, Option, Some, None, Result, Ok, Err, slice_get}
use Rattle.cc_whole_memory.specs.declared.act.Act.{Act}
use Rattle.cc_whole_memory.specs.declared.act.Act.TheVariants as act
use Rattle.cc_whole_memory.specs.declared.store.Block.{Block as Held}
use Rattle.cc_whole_memory.specs.declared.store.Store.{Store}
use Rattle.cc_whole_memory.specs.declared.value.Pointer.{Pointer}
use Rattle.cc_whole_memory.specs.Blocks.{Block, Memory, Place, reached}
use Rattle.cc_whole_memory.specs.declared.cells.Cell.{Cell}
use Rattle.cc_whole_memory.specs.Cells.{taken}
use Rattle.cc_whole_memory.specs.Lists.{cell_at}

abbrev pub held_block : Held → Block
held_block x = record { storage = x.storage; size = length x.cells.items; cells = cell_at x.cells.items }

abbrev pub block_of : Option Held → Option Block
block_of None = None
block_of (Some x) = if x.is_live then Some (held_block x) else None

abbrev pub memory_in : List Held → Memory
memory_in blocks = record { next = length blocks; block = λ b. block_of (slice_get blocks b) }

abbrev pub memory_of : Store → Memory
memory_of s = memory_in s.blocks.items

abbrev pub act_number : Act → ℕ
act_number act.A1 = 1
act_number act.A2 = 2
act_number act.A3 = 3
act_number act.A4 = 4
act_number act.A5 = 5
act_number act.A6 = 6
act_number act.A7 = 7
act_number act.A8 = 8
act_number act.A9 = 9
act_number act.A10 = 10
act_number act.A11 = 11

abbrev pub answer : {A : Type 0} → Result A Act → Result A ℕ
answer (Ok x) = Ok x
answer (Err a) = Err (act_number a)

-- n bytes that a pointer points to stand at an offset of a block of the list
pub record Reaches (p : Pointer) (n : ℕ) (blocks : List Held) (b q : ℕ) : Type 0 where
  pub held : Held
  pub there : slice_get blocks b ≡ Some held
  pub live : held.is_live ≡ true
  pub inside : q + n ≤ length held.cells.items
  pub same : reached p n (memory_in blocks) ≡ Ok (record { number = b; offset = q; block = held_block held })

-- what a move of n bytes takes from where a pointer points to
pub record Takes (p : Pointer) (n : ℕ) (blocks : List Held) (found : List Cell) : Type 0 where
  pub place : Place
  pub same : reached p n (memory_in blocks) ≡ Ok place
  pub enough : n ≤ length found
  pub pieces : (j : ℕ) → j < n → cell_at found j ≡ taken n place.block.cells place.offset j
