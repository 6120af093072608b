-- Parts of the C of a function.
use Rattle.std.specs.Prelude.{ℕ, ◌==◌, Bool, if◌then◌else◌, List, [], ◌∷◌, Option, Some, None}
use Rattle.std.specs.List.{list_any}
use Rattle.cc_whole.specs.declared.types.CType.{CType}
use Rattle.cc_whole.specs.declared.types.CType.TheVariants as ty
use Rattle.cc_whole.specs.declared.statement.CLocal.{CLocal}
use Rattle.cc_whole.specs.declared.unit.CParameter.{CParameter}
use Rattle.cc_whole.specs.declared.unit.CPrototype.{CPrototype}
use Rattle.cc_whole.specs.Plain.{Function, Statement, body, in_order}
use Rattle.cf_base.specs.declared.kind.Kind.TheVariants.{Int}
use Rattle.cf_core.specs.Types.{Name, SourceType, void}
use Rattle.cf_lower.specs.Functions.{scalar, lowered_parameters}
use Rattle.cf_lower.specs.Written.{if_scalar, c_type, register_name, local_name, type_number, result_name}
use Rattle.cf_lower_layout.specs.Sorts.{Sort, number, address, code}
use Rattle.cf_lower_stmt.specs.declared.around.Around.{Around}
use Rattle.cf_lower_stmt.specs.declared.around.Way.TheVariants as way

-- the three C locals of a register
abbrev pub three : ℕ → List CLocal
three r =
    scalar ty.Int (register_name (number Int) r) ∷ scalar ty.Pointer (register_name (address void) r) ∷ scalar ty.FunctionPointer (register_name (code void) r) ∷ []

-- whether a type stands in a list
abbrev pub occurs : CType → List CType → Bool
occurs t ts = list_any (λ (u : CType). type_number u == type_number t) ts

-- the C local for what calls give that have results of this type
abbrev pub for_result : CType → CLocal
for_result t = scalar t (result_name t)

-- the same, if the type stands in no list of others
abbrev pub once : CType → List CType → List CLocal
once t ts = if occurs t ts then [] else for_result t ∷ []

-- the parameter of this number, if it is a scalar
abbrev pub one_parameter : ℕ → Option Sort → List CParameter
one_parameter i s = if_scalar s [] (λ t. record { ty = c_type t; name = local_name i } ∷ [])

-- the head of a function with these parameters and this result
abbrev pub head : Bool → Name → List SourceType → Option CType → CPrototype
head is_local name types given = record {
  is_static = is_local;
  result = given;
  name = name;
  parameters = lowered_parameters 0 types;
}

-- a function of these parts
abbrev pub function_with : Bool → CPrototype → List CLocal → List Statement → Function
function_with is_shared prototype locals statements = record {
  is_shared = is_shared;
  prototype = prototype;
  body = body locals (in_order statements);
}

-- statements in no loop and no switch
abbrev pub nowhere : Around
nowhere = record { depth = 0; leaving = way.Nowhere; going_on = way.Nowhere }
