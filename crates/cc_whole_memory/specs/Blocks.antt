-- The memory of a run: numbered blocks. No number comes twice, and nothing is left of a block that has ended.
use Rattle.std.specs.Prelude.{ℕ, suc, ◌+◌, ◌-◌, nat_lt, nat_le, Bool, true, false, ◌==◌, if◌then◌else◌, Option, Some, None, Result, Ok, Err}
use Rattle.cc_whole_memory.specs.declared.value.Pointer.{Pointer}
use Rattle.cc_whole_memory.specs.declared.value.Pointer.TheVariants as pointer
use Rattle.cc_whole_memory.specs.declared.value.Value.{Value}
use Rattle.cc_whole_memory.specs.declared.value.Scalar.{Scalar}
use Rattle.cc_whole_memory.specs.declared.cells.Cell.{Cell}
use Rattle.cc_whole_memory.specs.declared.cells.Cell.TheVariants as cell
use Rattle.cc_whole_memory.specs.declared.store.Storage.{Storage}
use Rattle.cc_whole_memory.specs.declared.store.Storage.TheVariants as storage
use Rattle.cc_whole_memory.specs.Values.{bytes_of, size_of}
use Rattle.cc_whole_memory.specs.Cells.{Cells, put, load, taken, placed}

-- a block: what it is for, how many bytes it has, and what stands in them
pub record Block : Type 0 where
  pub storage : Storage
  pub size : ℕ
  pub cells : Cells

abbrev pub size_of_block : Block → ℕ
size_of_block x = x.size

abbrev pub storage_of_block : Block → Storage
storage_of_block x = x.storage

pub record Memory : Type 0 where
  pub next : ℕ  -- the number of the next block
  pub block : ℕ → Option Block  -- none where no block of this number lives

abbrev pub no_memory : Memory
no_memory = record { next = 0; block = λ b. None }

abbrev pub put_block : ℕ → Option Block → (ℕ → Option Block) → ℕ → Option Block
put_block b x blocks c = if c == b then x else blocks c

-- a static block reads as 0 or null until it is written; any other has no values
abbrev pub first_cell : Storage → Cell
first_cell storage.Static = cell.Zero
first_cell storage.Local = cell.Gone
first_cell storage.Heap = cell.Gone

abbrev pub new_block : Storage → ℕ → Block
new_block s size = record { storage = s; size = size; cells = λ i. if nat_lt i size then first_cell s else cell.Gone }

-- a new block of so many bytes
abbrev pub born : Storage → ℕ → Memory → Memory
born s size m = record { next = suc m.next; block = put_block m.next (Some (new_block s size)) m.block }

-- a block ends
abbrev pub ended : ℕ → Memory → Memory
ended b m = record m { block = put_block b None m.block }

-- The acts that a use of memory may be.
-- null is used or called
abbrev pub null_used : ℕ
null_used = 4

-- the block does not live
abbrev pub not_live : ℕ
not_live = 5

-- the place is outside its block
abbrev pub outside : ℕ
outside = 6

-- no value of that kind stands there
abbrev pub no_value : ℕ
no_value = 7

-- pointers to different blocks are compared or subtracted
abbrev pub different_blocks : ℕ
different_blocks = 8

-- what is freed is not the start of a live heap block
abbrev pub not_allotted : ℕ
not_allotted = 10

-- what a pointer points to: a block's number, an offset, and the block
pub record Place : Type 0 where
  pub number : ℕ
  pub offset : ℕ
  pub block : Block

abbrev pub inside : ℕ → ℕ → ℕ → Option Block → Result Place ℕ
inside b q n None = Err not_live
inside b q n (Some x) = if nat_le (q + n) x.size then Ok (record { number = b; offset = q; block = x }) else Err outside

-- where n bytes stand that a pointer points to
abbrev pub reached : Pointer → ℕ → Memory → Result Place ℕ
reached pointer.Null n m = Err null_used
reached (pointer.At b q) n m = inside b q n (m.block b)

abbrev pub on_ok : {A B : Type 0} → Result A ℕ → (A → Result B ℕ) → Result B ℕ
on_ok (Ok x) go = go x
on_ok (Err act) go = Err act

abbrev pub value_or_act : Option Value → Result Value ℕ
value_or_act None = Err no_value
value_or_act (Some v) = Ok v

-- a load of this type
abbrev pub read : Scalar → Pointer → Memory → Result Value ℕ
read t p m = on_ok (reached p (bytes_of t) m) (λ at. value_or_act (load t at.block.cells at.offset))

-- a block gets these cells
abbrev pub with_cells : Place → Cells → Memory → Memory
with_cells at cells m = record m { block = put_block at.number (Some (record at.block { cells = cells })) m.block }

-- a store
abbrev pub write : Pointer → Value → Memory → Result Memory ℕ
write p v m = on_ok (reached p (size_of v) m) (λ at. Ok (with_cells at (put v at.offset at.block.cells) m))

-- cells are placed at n bytes
abbrev pub laid : ℕ → Cells → Pointer → Memory → Result Memory ℕ
laid n found p m = on_ok (reached p n m) (λ at. Ok (with_cells at (placed n found at.offset at.block.cells) m))

-- what stands in n bytes is moved, no value included
abbrev pub carry : ℕ → Pointer → Pointer → Memory → Result Memory ℕ
carry n from to m = on_ok (reached from n m) (λ at. laid n (taken n at.block.cells at.offset) to m)

-- The heap. What is left of its limit is counted in charges: of each block its size, and at least 8.
abbrev pub charge : ℕ → ℕ
charge size = if nat_lt size 8 then 8 else size

-- a pointer, what is left of the heap's limit, and the memory
pub record Allotted : Type 0 where
  pub pointer : Pointer
  pub heap : ℕ
  pub memory : Memory

-- `malloc`: null where the charge passes what is left
abbrev pub allotted : ℕ → ℕ → Memory → Allotted
allotted size heap m =
    if nat_lt heap (charge size) then record { pointer = pointer.Null; heap = heap; memory = m }
    else record { pointer = pointer.At m.next 0; heap = heap - charge size; memory = born storage.Heap size m }

pub record Freed : Type 0 where
  pub heap : ℕ
  pub memory : Memory

abbrev pub is_heap : Storage → Bool
is_heap storage.Static = false
is_heap storage.Local = false
is_heap storage.Heap = true

-- how many bytes a live heap block has
abbrev pub heap_size : Option Block → Option ℕ
heap_size None = None
heap_size (Some x) = if is_heap x.storage then Some x.size else None

abbrev pub freed_block : ℕ → ℕ → Option ℕ → ℕ → Memory → Result Freed ℕ
freed_block b q None heap m = Err not_allotted
freed_block b q (Some size) heap m = if q == 0 then Ok (record { heap = heap + charge size; memory = ended b m }) else Err not_allotted

-- `free`: null is ignored
abbrev pub freed : Pointer → ℕ → Memory → Result Freed ℕ
freed pointer.Null heap m = Ok (record { heap = heap; memory = m })
freed (pointer.At b q) heap m = freed_block b q (heap_size (m.block b)) heap m
