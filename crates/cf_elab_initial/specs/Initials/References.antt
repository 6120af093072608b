-- What a type refers to.
use Rattle.std.specs.Prelude.{ℕ, Option, None, Some}
use Rattle.cf_types.specs.Table.{Table}
use Rattle.cf_elab.specs.Operand.{Sort, sort_of, reference_sort}

abbrev pub referred : Sort → Option ℕ
referred (reference_sort t) = Some t
referred other = None

unfoldable pub reference_at : Table → ℕ → Option ℕ
reference_at types t = referred (sort_of types t)
