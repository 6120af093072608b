-- What is converted, by how the C has what it becomes and whether it is an integer.
use Rattle.std.specs.Prelude.{ℕ, Bool, true, false, Option, Some, None}
use Rattle.cc_whole.specs.Plain.{Expression}
use Rattle.cf_lower.specs.Expressions.{zero, in_register, integer_in, as_value, as_bits, at_kind}
use Rattle.cf_lower_names.specs.declared.cell.Cell.{Cell}
use Rattle.cf_lower_names.specs.declared.cell.Cell.TheVariants as cell
use Rattle.cf_lower_names.specs.Cells.{sort_for}

-- an integer is the constant 0; any other value is what stands in the register
abbrev pub pointer_by : Cell → Bool → ℕ → Expression
pointer_by c true r = as_value (sort_for c) zero
pointer_by c false r = as_value (sort_for c) (in_register (sort_for c) r)

abbrev pub converted_by : Option Cell → Bool → ℕ → Expression
converted_by None b r = zero
converted_by (Some (cell.Number k)) b r = as_bits (at_kind k (integer_in r))
converted_by (Some cell.Address) b r = pointer_by cell.Address b r
converted_by (Some cell.Code) b r = pointer_by cell.Code b r
