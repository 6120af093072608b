-- Which functions of a file are in place, by the names and types that their actions have: each is what its name and type say it is.
use Rattle.std.specs.Prelude.{ℕ, Bool, true, false, ◌&&◌, ◌||◌, not, if◌then◌else◌, List, bytes_eq, codes}
use Rattle.std.specs.List.{list_all}
use Rattle.cf_base.specs.declared.kind.Kind.TheVariants.{Int}
use Rattle.cf_core.specs.Types.{Name, SourceType, void, integer, takes, gives, type_eq, without_const, parameters, result as result_type}
use Rattle.cf_core.specs.Classes.{Class}
use Rattle.cf_core.specs.Calls.{is_library}
use Rattle.cf_lower_layout.specs.Sorts.{sort_of}
use Rattle.cf_plain.specs.Plain.{PlainFunction, PlainFile}
use Rattle.cf_lower.specs.Kept.{Locals, nothing_kept}
use Rattle.cf_lower.specs.Functions.{all_bound, locals_of}
use Rattle.cf_lower_place.specs.View.{View, Reach}
use Rattle.cf_lower_place.specs.Calls.{types_passed, fits}
use Rattle.cf_lower_place.specs.InPlace.{all_in_place}

-- the types of `putchar`, `getchar` and `exit`
abbrev pub library_type : Name → SourceType
library_type name =
    if bytes_eq name (codes "putchar") then takes (integer Int) (gives (integer Int) false)
    else (if bytes_eq name (codes "exit") then takes (integer Int) (gives void false) else gives (integer Int) false)

-- parameters and what is given, with no const on a part of the type
abbrev pub is_signature : SourceType → Bool
is_signature (takes p t) = is_signature t
is_signature (gives t c) = true
is_signature t = false

-- functions of the library have their types
abbrev pub may_be_named : Name → SourceType → Bool
may_be_named name t = not (is_library name) || type_eq (without_const (library_type name)) (without_const t)

-- a call of this type takes these locals
abbrev pub takes_locals : Locals → SourceType → List ℕ → Bool
takes_locals locals t is = is_signature t && types_passed locals is (parameters t)

abbrev pub view_of : List Class → PlainFunction → View
view_of classes f = record {
  locals = locals_of f;
  bound = all_bound f.body;
  result = sort_of (result_type f.type);
  classes = classes;
  texts = λ j bytes. true;
  names = λ name t. may_be_named name t;
}

abbrev pub reach_of : PlainFunction → Reach
reach_of f = record {
  library = λ name. library_type name;
  results = λ t. true;
  called = λ name t is. takes_locals (locals_of f) t is;
  reached = λ t is. takes_locals (locals_of f) t is;
}

abbrev pub function_in_place : List Class → PlainFunction → Bool
function_in_place classes f =
    is_signature f.type && all_in_place (locals_of f) (fits (view_of classes f) (reach_of f)) false false f.body nothing_kept

abbrev pub functions_in_place : PlainFile → Bool
functions_in_place file = list_all (function_in_place file.classes) file.functions
