-- Whether a reference binds a place itself, told by the steps of the conversion to the reference: they do no more than add const.
use Rattle.std.specs.Prelude.{ℕ, Bool, false, ◌&&◌, List, Option, None, Some}
use Rattle.std.specs.List.{list_all}
use Rattle.cf_convert.specs.Converts.{steps, is_add_const}
use Rattle.cf_convert.specs.declared.conv.ConvStep.{ConvStep}
use Rattle.cf_core.specs.declared.node.Core.TheVariants as node
use Rattle.cf_core.specs.declared.node.Holder.TheVariants as holder
use Rattle.cf_elab.specs.Env.{Env}
use Rattle.cf_elab.specs.Initial.{Start, fixed_start}
use Rattle.cf_elab.specs.Operand.{Value, val, defs}

abbrev pub add_const_alone : Option (List ConvStep) → Bool
add_const_alone None = false
add_const_alone (Some ss) = list_all is_add_const ss

-- of a value and the number of a reference type
unfoldable pub binds_by : Env → Value → ℕ → Bool
binds_by env v reference = v.is_lvalue && add_const_alone (steps env.types (defs env) (val v) reference)

abbrev pub bound_place : ℕ → Value → Start
bound_place at v = fixed_start (node.Bind at holder.NoTemporary v.node) v.is_fixed
