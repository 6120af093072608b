-- The rows of casts, each under a name of its own that does not unfold. `Rattle.cf_elab_cast.proofs` says what each is.
use Rattle.std.specs.Prelude.{ℕ, List}
use Rattle.cf_elab.specs.Answer.{Elab, ◌>>=◌, gives, known, breaks}
use Rattle.cf_elab.specs.Cast as row
use Rattle.cf_elab.specs.ClassOperators as class
use Rattle.cf_elab.specs.Fit.{fit, null_of}
use Rattle.cf_elab.specs.Operand.{Value, sort_of}
use Rattle.cf_elab_cast.specs.Forms.{form_at}
use Rattle.cf_elab_cast.specs.declared.form.Form.{Form}
use Rattle.cf_elab_cast.specs.declared.form.Form.TheVariants as form

-- one of a type that is the same but for const
unfoldable pub retyped : ℕ → ℕ → Value → Elab Value
retyped = row.retyped

-- to void, which reads nothing
unfoldable pub to_nothing : ℕ → ℕ → Value → Elab Value
to_nothing at t v = known >>= (λ env. gives (row.to_nothing env at t v))

-- a plain value as one of the type, by what the cast does
unfoldable pub cast_by : ℕ → ℕ → Form → Value → Elab Value
cast_by at t form.Fit x = fit at x t
cast_by at t form.Enumeration x = gives (row.as_enumeration at t x)
cast_by at t form.Same x = gives (record x { type = t })
cast_by at t form.Const x = retyped at t x
cast_by at t (form.FromVoid u) x = gives (row.from_void at t u x)
cast_by at t form.ToVoid x = gives (row.to_void at t x)
cast_by at t form.Null x = gives (null_of t x)
cast_by at t form.Nothing x = to_nothing at t x
cast_by at t form.None x = breaks 17 at

unfoldable pub cast_plain : ℕ → ℕ → Value → Elab Value
cast_plain at t x = known >>= (λ env. cast_by at t (form_at env.types t x.type x.number) x)

-- a value as one of a type that is no reference and not void
unfoldable pub cast_value : ℕ → ℕ → Value → Elab Value
cast_value at t v = known >>= (λ env. row.cast_value at t (sort_of env.types t) v)

unfoldable pub as_place : ℕ → ℕ → Value → Elab Value
as_place = row.as_place

-- to a type without a const on it
unfoldable pub cast_bare : ℕ → ℕ → Value → Elab Value
cast_bare at t v = known >>= (λ env. row.cast_sort at t v (sort_of env.types t))

unfoldable pub cast : ℕ → ℕ → Value → Elab Value
cast = row.cast

-- a cast that may be to or from a class
unfoldable pub cast_operator : ℕ → ℕ → Value → Elab Value
cast_operator = class.cast_operator

unfoldable pub zero_value : ℕ → ℕ → Elab Value
zero_value = row.zero_value

unfoldable pub from_arguments : ℕ → ℕ → List Value → Elab Value
from_arguments = row.from_arguments
