-- What lowering asks of plain functions beyond what their registers hold: constants are of 32 bits, no const stands on a reference, pointers are moved over
-- objects, and a local is declared with its own type.
use Rattle.std.specs.Prelude.{Bool, true, false, ◌&&◌, ◌||◌, not, List, ◌++◌, Option, Some, None, slice_get}
use Rattle.std.specs.List.{list_all}
use Rattle.cf_core.specs.declared.operators.PointerOperator.{PointerOperator}
use Rattle.cf_core.specs.declared.operators.PointerOperator.TheVariants as pointer
use Rattle.cf_core.specs.Types.{SourceType, array, takes, gives, const, is_void, type_eq, parameters, result as result_type}
use Rattle.cf_core.specs.Core.{moved}
use Rattle.cf_core.specs.Places.{is_reference}
use Rattle.cf_base.specs.declared.kind.Kind.TheVariants.{Int, UInt}
use Rattle.cf_base.specs.Integers.{fits}
use Rattle.cf_plain.specs.Plain.{Action, number, local, static_object, function, decay, index, from_void, pointer_operate, changed, declare, Plain, Plains, act, set, branch, loop, switch, parts, nothing, more, PlainFunction, PlainFile}
use Rattle.cf_plain_kept.specs.Kept.{Kept, a_place, an_object, Keeping, nothing_set, after}

-- whether a place of this type is a function
abbrev pub is_code : SourceType → Bool
is_code (takes p t) = true
is_code (gives t c) = true
is_code (const t) = is_code t
is_code t = false

-- whether no const stands on a reference (8.4.3)
abbrev pub names_well : SourceType → Bool
names_well (const t) = not (is_reference t)
names_well t = true

-- whether the elements of an array are objects
abbrev pub has_objects : SourceType → Bool
has_objects (array t n) = not (is_code t)
has_objects (const t) = has_objects t
has_objects t = true

-- whether pointers to this type can be moved
abbrev pub is_object : SourceType → Bool
is_object t = not (is_code t) && not (is_void t)

-- whether pointers to this type can be compared for equality: those to void too (5.10)
abbrev pub is_no_code : SourceType → Bool
is_no_code t = not (is_code t)

-- whether it is so of the type of a place, if it is one
abbrev pub of_place : (SourceType → Bool) → Option Kept → Bool
of_place test (Some (a_place t)) = test t
of_place test x = true

-- what an operator on pointers asks of its operands
abbrev pub operands_ready : PointerOperator → Option Kept → Option Kept → Bool
operands_ready pointer.Equal x y = of_place is_no_code x && of_place is_no_code y
operands_ready pointer.NotEqual x y = of_place is_no_code x && of_place is_no_code y
operands_ready op x y = of_place is_object x && of_place is_object y

-- whether what decays is an array of objects, or a function; an object that is declared is no function
abbrev pub decays_well : Option Kept → Bool
decays_well (Some (a_place t)) = has_objects t
decays_well (Some (an_object i t)) = has_objects t && not (is_code t)
decays_well x = true

abbrev pub is_the_type : Option SourceType → SourceType → Bool
is_the_type None t = false
is_the_type (Some u) t = type_eq u t

abbrev pub names_well_if : Option SourceType → Bool
names_well_if None = true
names_well_if (Some t) = names_well t

module _ (locals : List SourceType) (result : SourceType) where
  abbrev pub action_ready : Keeping → Action → Bool
  action_ready g (number z) = fits Int z || fits UInt z
  action_ready g (local i) = names_well_if (slice_get locals i)
  action_ready g (static_object name t) = names_well t
  action_ready g (function name t) = is_code t
  action_ready g (decay r) = decays_well (g r)
  action_ready g (index r q) = of_place is_object (g r) && of_place is_object (g q)
  action_ready g (from_void t r) = not (is_code t)
  action_ready g (pointer_operate op r q) = operands_ready op (g r) (g q)
  action_ready g (changed (moved back) r q) = of_place is_object (g r)
  action_ready g (declare i t) = is_the_type (slice_get locals i) t
  action_ready g a = true

  abbrev mutual
    -- the actions of a statement, before which the registers hold this
    pub ready : Plain → Keeping → Bool
    ready (act a) g = action_ready g a
    ready (set r a) g = action_ready g a
    ready (branch r ss ts) g = all_ready ss g && all_ready ts g
    ready (loop ss ts) g = all_ready ss nothing_set && all_ready ts nothing_set
    ready (switch r ss) g = all_ready ss nothing_set
    ready (parts ps) g = false
    ready s g = true

    pub all_ready : Plains → Keeping → Bool
    all_ready nothing g = true
    all_ready (more s rest) g = ready s g && elim (after locals result s g) [ None ↦ false | Some h ↦ all_ready rest h ]

abbrev pub function_ready : PlainFunction → Bool
function_ready f = all_ready (parameters f.type ++ f.locals) (result_type f.type) f.body nothing_set

abbrev pub functions_ready : PlainFile → Bool
functions_ready file = list_all function_ready file.functions
