-- How the C has what a register holds.
use Rattle.std.specs.Prelude.{Option, Some, None}
use Rattle.std.specs.Option.{option_map}
use Rattle.cf_lower.specs.Kept.{Kept, holds, local_kept}
use Rattle.cf_lower_names.specs.declared.cell.Cell.{Cell}
use Rattle.cf_lower_names.specs.Cells.{cell_of}

-- where an integer is an int
abbrev pub local_cell : Kept → Option Cell
local_cell x = option_map cell_of (local_kept x)

-- an address or a function
abbrev pub pointer_cell : Kept → Option Cell
pointer_cell (holds s) = Some (cell_of s)
pointer_cell x = None
