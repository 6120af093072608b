-- What a pointer that is called leads to.
use Rattle.std.specs.Prelude.{ℕ, Option, None, Some}
use Rattle.cf_types.specs.Table.{Table}
use Rattle.cf_elab.specs.Operand.{Sort, sort_of, function_pointer}

-- the type of the function that a pointer leads to
abbrev pub function_of : Sort → Option ℕ
function_of (function_pointer t) = Some t
function_of other = None

unfoldable pub function_at : Table → ℕ → Option ℕ
function_at types t = function_of (sort_of types t)
