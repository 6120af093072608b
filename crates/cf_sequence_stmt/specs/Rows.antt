-- The elements of array types, by the numbers of types.
use Rattle.std.specs.Prelude.{ℕ, Option, Some, None, slice_get}
use Rattle.cf_types.specs.declared.ty.Ty.{Ty}
use Rattle.cf_types.specs.declared.ty.Ty.TheVariants as ty
use Rattle.cf_types.specs.Table.{Table}
use Rattle.cf_sequence_stmt.specs.declared.rows.Row.{Row}

-- of an entry that is an array
abbrev pub row_in : Option Ty → Option Row
row_in (Some (ty.Array t n)) = Some (record { element = t; bound = n })
row_in other = None

-- or a const one
abbrev pub row_of : Table → Option Ty → Option Row
row_of types (Some (ty.Const t)) = row_in (slice_get types.types t)
row_of types other = row_in other

-- of the type of this number
abbrev pub row_at : Table → ℕ → Option Row
row_at types t = row_of types (slice_get types.types t)
