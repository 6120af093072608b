-- Which types are lowered.
use Rattle.std.specs.Prelude.{◌^◌, Bool, true, false, ◌&&◌, ◌||◌, not, nat_le, List, [], ◌∷◌, ◌++◌, length, is_some}
use Rattle.std.specs.List.{flat_map, list_all}
use Rattle.cf_core.specs.Types.{SourceType, void, integer, enumeration, class, pointer, reference, array, takes, gives, data_member, function_member, const, is_void, parameters, result}
use Rattle.cf_core.specs.Size.{size}
use Rattle.cf_lower_layout.specs.Layout.{has_bytes, const_once}
use Rattle.cf_lower_layout.specs.Sorts.{sort_of}
use Rattle.cf_lower_kept.specs.Ready.{is_code}
use Rattle.cf_plain.specs.Plain.{Action, static_object, function, convert, from_void, declare, finish, call, pointer_call, PlainFunction, PlainStatic, PlainFile}
use Rattle.cf_plain.specs.Named.{all_actions}

-- whether objects of this type are laid out: 2 ^ 22 bytes at most, no array of no elements, no const directly on const
abbrev pub is_laid : SourceType → Bool
is_laid t = nat_le (size [] t) (2 ^ 22) && has_bytes t && const_once t

-- Whether there is no pointer to a member in a type, each array in it is laid out, and no const stands on a function (7.1.6). A pointer to a class that is
-- not defined may be there.
abbrev pub is_lowered : SourceType → Bool
is_lowered void = true
is_lowered (integer k) = true
is_lowered (enumeration e) = true
is_lowered (class c) = true
is_lowered (pointer t) = is_lowered t
is_lowered (reference t) = is_lowered t
is_lowered (array t n) = is_laid (array t n) && is_lowered t
is_lowered (takes p t) = is_lowered p && is_lowered t
is_lowered (gives t c) = is_lowered t
is_lowered (data_member c t) = false
is_lowered (function_member c t) = false
is_lowered (const t) = not (is_code t) && is_lowered t

-- Whether parameters are scalars, and what is given is one or nothing. Their numbers are written with 64 digits at most, so no two have one name.
abbrev pub is_callable : SourceType → Bool
is_callable t =
    nat_le (length (parameters t)) (2 ^ 64)
    && list_all (λ p. is_some (sort_of p)) (parameters t)
    && (is_void (result t) || is_some (sort_of (result t)))

-- the actions of a file's functions and initialisers
abbrev pub file_actions : PlainFile → List Action
file_actions file =
    flat_map (λ (f : PlainFunction). all_actions f.body) file.functions ++ flat_map (λ (x : PlainStatic). all_actions x.start) file.statics

-- the types that an action has
abbrev pub types_at : Action → List SourceType
types_at (static_object name t) = t ∷ []
types_at (function name t) = t ∷ []
types_at (convert t r) = t ∷ []
types_at (from_void t r) = t ∷ []
types_at (declare i t) = t ∷ []
types_at (finish t i) = t ∷ []
types_at (call name t object is into) = t ∷ []
types_at (pointer_call object r t is into) = t ∷ []
types_at a = []

abbrev pub types_in : PlainFile → List SourceType
types_in file =
    flat_map (λ (f : PlainFunction). f.type ∷ f.locals) file.functions ++ flat_map (λ (x : PlainStatic). x.type ∷ x.locals) file.statics
    ++ flat_map types_at (file_actions file)

-- of objects and functions that an action names, wherever they are defined, and of what it calls through a pointer
abbrev pub is_well_typed : Action → Bool
is_well_typed (static_object name t) = is_laid t && not (is_code t)
is_well_typed (function name t) = is_callable t
is_well_typed (call name t object is into) = is_callable t
is_well_typed (pointer_call object r t is into) = is_callable t
is_well_typed a = true

abbrev pub objects_laid : PlainFile → Bool
objects_laid file =
    list_all (λ (f : PlainFunction). is_callable f.type && list_all is_laid (parameters f.type ++ f.locals)) file.functions
    && list_all (λ (x : PlainStatic). is_laid x.type) file.statics

abbrev pub types_lowered : PlainFile → Bool
types_lowered file = list_all is_lowered (types_in file) && list_all is_well_typed (file_actions file) && objects_laid file
