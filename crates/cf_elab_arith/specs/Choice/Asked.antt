-- What a conditional expression asks of its two values, each under a name that does not unfold.
use Rattle.std.specs.Prelude.{ℕ, Bool, ◌==◌, ◌&&◌, ◌||◌, List, Option, None, Some}
use Rattle.cf_base.specs.declared.kind.Kind.{Kind}
use Rattle.cf_base.specs.Promotion.{usual}
use Rattle.cf_types.specs.Table.{Table}
use Rattle.cf_convert.specs.Converts.{steps}
use Rattle.cf_convert.specs.declared.conv.ConvStep.{ConvStep}
use Rattle.cf_elab.specs.Cast.{takes_null}
use Rattle.cf_elab.specs.Env.{Env}
use Rattle.cf_elab.specs.Operand.{Value, val, defs, sort_of, is_void}
use Rattle.cf_elab_arith.specs.Arith.Sorts.{kind_at}

-- the type that both are converted to, where both are arithmetic (4.5)
abbrev pub common : Option Kind → Option Kind → Option Kind
common (Some k) (Some l) = Some (usual k l)
common k l = None

-- ---- of types by their numbers

unfoldable pub common_kind : Table → ℕ → ℕ → Option Kind
common_kind types t u = common (kind_at types t) (kind_at types u)

unfoldable pub void_at : Table → ℕ → Bool
void_at types t = is_void (sort_of types t)

unfoldable pub are_void : Table → ℕ → ℕ → Bool
are_void types t u = void_at types t && void_at types u

unfoldable pub pointer_at : Table → ℕ → Bool
pointer_at types t = takes_null (sort_of types t)

unfoldable pub is_one_pointer : Table → ℕ → ℕ → Bool
is_one_pointer types t u = pointer_at types t || pointer_at types u

-- the steps of a value to a type, if it is converted to it
unfoldable pub steps_between : Env → Value → ℕ → Option (List ConvStep)
steps_between env x t = steps env.types (defs env) (val x) t

-- two places of one type
unfoldable pub is_one_place : Value → Value → Bool
is_one_place x y = x.is_lvalue && y.is_lvalue && (x.type == y.type)
