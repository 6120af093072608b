-- The block of a parameter, as it is born.
use Rattle.cc_whole_memory.specs.declared.cells.Cell.TheVariants as cell
use Rattle.cc_whole_memory.specs.declared.store.Storage.TheVariants as storage
use Rattle.cc_whole_memory.specs.declared.value.Value.{Value}
use Rattle.cc_whole_memory.specs.Blocks.{Block}
use Rattle.cc_whole_memory.specs.Cells.{put}
use Rattle.cc_whole_memory.specs.Values.{size_of}

-- it holds this value
abbrev pub holding : Value → Block
holding v = record { storage = storage.Local; size = size_of v; cells = put v 0 (λ i. cell.Gone) }
