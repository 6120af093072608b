-- A list of cells as the cells of a block.
use Rattle.std.specs.Prelude.{ℕ, List, Option, Some, None, slice_get}
use Rattle.cc_whole_memory.specs.declared.cells.Cell.{Cell}
use Rattle.cc_whole_memory.specs.declared.cells.Cell.TheVariants as cell

abbrev pub cell_of : Option Cell → Cell
cell_of None = cell.Gone
cell_of (Some c) = c

abbrev pub cell_at : List Cell → ℕ → Cell
cell_at cells i = cell_of (slice_get cells i)
