-- What is known of an operand, and of where an object is.
use Rattle.std.specs.Prelude.{Bool, true, false}
use Rattle.cf_types.specs.Table.{Table}
use Rattle.cf_elab.specs.Env.{Home, local_home, static_home}
use Rattle.cf_elab_env.specs.declared.operand.Operand.{Operand}
use Rattle.cf_elab_env.specs.declared.operand.Operand.TheVariants as form
use Rattle.cf_elab_env.specs.Holds.{Known}

-- the type of a value is in the table, and a number that is known is one of that type; functions are asked for their types when one is taken
abbrev pub IsOperand : Table → Operand → Type 0
IsOperand types (form.Value v) = Known types v
IsOperand types (form.Functions at fs) = Unit {0}

-- whether an object is static
abbrev pub is_static : Home → Bool
is_static (local_home i) = false
is_static (static_home name) = true
