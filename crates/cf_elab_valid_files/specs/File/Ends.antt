-- Whether the end of a file is as the law of files asks: a look at the table of types, the link names, the functions and the static objects.
use Rattle.std.specs.Prelude.{ℕ, Bool, true, false, not, ◌&&◌, nat_lt, List, [], ◌∷◌, ◌++◌, length, map, slice_get}
use Rattle.std.specs.List.{list_all}
use Rattle.std.specs.Option.{option_map_or}
use Rattle.cf_types.specs.Table.{Table}
use Rattle.cf_types.specs.declared.ty.Fun.{Fun}
use Rattle.cf_types.specs.declared.ty.Ty.{Ty}
use Rattle.cf_types.specs.declared.ty.Ty.TheVariants as ty
use Rattle.cf_core.specs.declared.unit.CoreFn.{CoreFn}
use Rattle.cf_core.specs.declared.unit.CoreStatic.{CoreStatic}
use Rattle.cf_core.specs.FromUnit.{is_short}
use Rattle.cf_core.specs.Valid.{all_differ}
use Rattle.cf_elab.specs.Env.{Env}
use Rattle.cf_elab.specs.Operand.{Sort, array_sort, function_sort, void_sort, sort_of, is_reference, is_void}

-- an object can be of it
abbrev pub is_object : Sort → Bool
is_object void_sort = false
is_object (function_sort f) = false
is_object other = true

-- a function can give it (8.2.5)
abbrev pub is_given : Sort → Bool
is_given (array_sort t n) = false
is_given (function_sort f) = false
is_given other = true

-- nothing leads to a reference, no reference to void, an array has objects, and no function gives an array or a function
abbrev pub aims_right : Table → Ty → Bool
aims_right types (ty.Ptr t) = not (is_reference (sort_of types t))
aims_right types (ty.Ref t) = not (is_reference (sort_of types t)) && not (is_void (sort_of types t))
aims_right types (ty.Array t n) = not (is_reference (sort_of types t)) && is_object (sort_of types t)
aims_right types (ty.Fun f) = option_map_or (λ (g : Fun). is_given (sort_of types g.result)) (slice_get types.funs f) true
aims_right types other = true

abbrev pub no_locals : List ℕ → Bool
no_locals [] = true
no_locals (t ∷ ts) = false

abbrev pub names_right : Env → Bool
names_right env =
    all_differ (map (λ (f : CoreFn). f.name) env.functions ++ map (λ (x : CoreStatic). x.name) env.statics)
    && (list_all (λ (f : CoreFn). is_short f.name) env.functions && list_all (λ (x : CoreStatic). is_short x.name) env.statics)

-- types of the table, of which objects are and which functions give
abbrev pub can_be_made : Table → ℕ → Bool
can_be_made types t = nat_lt t (length types.types) && is_object (sort_of types t)

abbrev pub can_be_given : Table → ℕ → Bool
can_be_given types t = nat_lt t (length types.types) && is_given (sort_of types t)

abbrev pub frame_right : Table → CoreFn → Bool
frame_right types f = list_all (can_be_made types) (f.params ++ f.locals) && can_be_given types f.result

abbrev pub objects_right : Env → Bool
objects_right env = list_all (frame_right env.types) env.functions && list_all (λ (x : CoreStatic). can_be_made env.types x.ty) env.statics

abbrev pub is_finished : Env → Bool
is_finished env = (no_locals env.hand.locals && list_all (aims_right env.types) env.types.types) && (names_right env && objects_right env)
