-- The scalars of lowering, as registers hold them: of an address and of a function the type does not matter there.
use Rattle.cf_core.specs.Types.{void}
use Rattle.cf_lower_layout.specs.Sorts.{Sort, number, address, code}
use Rattle.cf_lower_names.specs.declared.cell.Cell.{Cell}
use Rattle.cf_lower_names.specs.declared.cell.Cell.TheVariants as cell

abbrev pub sort_for : Cell → Sort
sort_for (cell.Number k) = number k
sort_for cell.Address = address void
sort_for cell.Code = code void

abbrev pub cell_of : Sort → Cell
cell_of (number k) = cell.Number k
cell_of (address t) = cell.Address
cell_of (code t) = cell.Code
