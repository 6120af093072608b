-- What binary operators ask of types and values, each under a name that does not unfold.
use Rattle.std.specs.Prelude.{ℕ, Bool, ◌&&◌, List, Option}
use Rattle.cf_types.specs.Table.{Table}
use Rattle.cf_convert.specs.Converts.{steps}
use Rattle.cf_convert.specs.declared.conv.ConvStep.{ConvStep}
use Rattle.cf_elab.specs.Binary as binary
use Rattle.cf_elab.specs.Env.{Env}
use Rattle.cf_elab.specs.Operand.{Value, val, defs, sort_of, is_void}
use Rattle.cf_elab_arith.specs.Arith.Sorts.{complete_at}

-- the steps of a value to a type, if it is converted to it
unfoldable pub steps_to : Env → Value → ℕ → Option (List ConvStep)
steps_to env x t = steps env.types (defs env) (val x) t

-- the type that a pointer leads to
unfoldable pub pointed : Table → ℕ → ℕ
pointed = binary.pointed

-- whether objects of both types hold no class that is not defined
unfoldable pub are_complete : Env → ℕ → ℕ → Bool
are_complete env t u = complete_at env t && complete_at env u

-- whether it is void, which no operand is
unfoldable pub void_type_at : Table → ℕ → Bool
void_type_at types t = is_void (sort_of types t)
