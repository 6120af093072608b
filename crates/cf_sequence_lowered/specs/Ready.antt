-- What is to be so of the nodes of a function for its plain statements to be ready for lowering.
use Rattle.std.specs.Prelude.{◌^◌, nat_le, Bool, true, false, ◌&&◌, ◌||◌, not, is_some, ◌++◌, Option, Some, None, slice_get}
use Rattle.std.specs.List.{list_all}
use Rattle.cf_base.specs.declared.kind.Kind.TheVariants.{Int, UInt}
use Rattle.cf_base.specs.Integers.{fits}
use Rattle.cf_core.specs.declared.operators.PointerOperator.{PointerOperator}
use Rattle.cf_core.specs.declared.operators.PointerOperator.TheVariants as pointers
use Rattle.cf_core.specs.Types.{SourceType, integer, enumeration, pointer, reference, const, parameters, element, plain}
use Rattle.cf_core.specs.Core.{Core, Cores, none, more, number, local, static_object, decay, index, from_void, pointer_operate, update, step, moved, temporary, declare, bind, local_temporary, call, virtual_call, pointer_call, build, list, Function, CoreFile}
use Rattle.cf_core.specs.Nodes.{nodes}
use Rattle.cf_core.specs.Objects.{count}
use Rattle.cf_core.specs.Places.{bound}
use Rattle.cf_core.specs.Typing.{Scope, Typing}
use Rattle.cf_core.specs.Typed.{typing}
use Rattle.cf_core.specs.Valid.{Body, body_of}
use Rattle.cf_lower_kept.specs.Ready.{names_well, names_well_if, has_objects, is_object, is_no_code, is_code, is_the_type}

-- what the operands of an operator on pointers may point to: those of a test for equality to void too
abbrev pub pointed_by : PointerOperator → SourceType → Bool
pointed_by pointers.Equal = is_no_code
pointed_by pointers.NotEqual = is_no_code
pointed_by op = is_object

-- a number, or a pointer to what passes a test
abbrev pub is_operand : (SourceType → Bool) → SourceType → Bool
is_operand test (integer k) = true
is_operand test (enumeration e) = true
is_operand test (pointer t) = test t
is_operand test (const t) = is_operand test t
is_operand test t = false

-- of an operator on pointers; a constant has no type of its own
abbrev pub operand_is_ready : (SourceType → Bool) → Typing → Bool
operand_is_ready test x = elim x.type [ None ↦ is_some x.number | Some t ↦ is_operand test t ]

-- a scalar that can be moved in place, if it is a pointer
abbrev pub may_move : SourceType → Bool
may_move (pointer t) = is_object t
may_move (reference t) = is_object t
may_move (const t) = may_move t
may_move t = true

abbrev pub of_type : (SourceType → Bool) → Option SourceType → Bool
of_type test None = true
of_type test (Some t) = test t

-- The list that is the initialiser of an array: its elements are objects, and int has the number of each.
abbrev mutual
  pub row_is_ready : SourceType → Core → Bool
  row_is_ready t (list es last) =
      (has_objects t && not (is_code t))
      && (is_object (element (plain t)) && (nat_le (count es) (2 ^ 31) && (nat_le (bound t) (2 ^ 31) && rows_are_ready (element (plain t)) es)))
  row_is_ready t e = true

  pub rows_are_ready : SourceType → Cores → Bool
  rows_are_ready t none = true
  rows_are_ready t (more e es) = row_is_ready t e && rows_are_ready t es

module _ (scope : Scope) where
  abbrev pub node_is_ready : Core → Bool
  node_is_ready (number z) = fits Int z || fits UInt z
  node_is_ready (local i) = names_well_if (slice_get scope.locals i)
  node_is_ready (static_object name t) = names_well t
  node_is_ready (decay e) = of_type has_objects (typing scope e).place
  node_is_ready (index a b) = operand_is_ready is_object (typing scope a) && operand_is_ready is_object (typing scope b)
  node_is_ready (pointer_operate op a b) = operand_is_ready (pointed_by op) (typing scope a) && operand_is_ready (pointed_by op) (typing scope b)
  node_is_ready (from_void t e) = not (is_code t)
  node_is_ready (update a (moved back) b) = of_type may_move (typing scope a).place
  node_is_ready (step is_postfix (moved back) e) = of_type may_move (typing scope e).place
  node_is_ready (temporary t e) = names_well t
  node_is_ready (declare i t e) = is_the_type (slice_get scope.locals i) t && row_is_ready t e
  node_is_ready (bind (local_temporary i t) e) = is_the_type (slice_get scope.locals i) t && names_well t
  node_is_ready (call name t object args) = list_all names_well (parameters t)
  node_is_ready (virtual_call signature t e args) = list_all names_well (parameters t)
  node_is_ready (pointer_call object e t args) = list_all names_well (parameters t)
  node_is_ready (build name t args) = list_all names_well (parameters t)
  node_is_ready e = true

abbrev pub function_is_ready : CoreFile → Function → Bool
function_is_ready file f = list_all names_well (parameters f.type ++ f.locals) && list_all (node_is_ready (Body.scope (body_of file f))) (nodes f.body)

abbrev pub core_is_ready : CoreFile → Bool
core_is_ready file = list_all (function_is_ready file) file.functions
