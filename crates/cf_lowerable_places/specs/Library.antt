-- The functions of the library, in the code's type.
use Rattle.std.specs.Prelude.{ℕ, Bool, true, false, ◌&&◌, ◌||◌, not, if◌then◌else◌, List, [], ◌∷◌, Option, Some, None, bytes_eq, codes}
use Rattle.cf_base.specs.declared.kind.Kind.TheVariants.{Int}
use Rattle.cf_core.specs.FromTypes.{Tables}
use Rattle.cf_core.specs.Types.{Name, SourceType, void, integer, takes, gives, type_eq, without_const, result as result_type}
use Rattle.cf_lower.specs.Kept.{Locals}
use Rattle.cf_lower_layout.specs.Sorts.{sort_of}
use Rattle.cf_lower_place.specs.Calls.{is_an_int, is_no_sort, are_passed}
use Rattle.cf_lower_types.specs.Bare.{bare}
use Rattle.cf_lowerable_places.specs.declared.library.Library.{Library}
use Rattle.cf_lowerable_places.specs.declared.library.Library.TheVariants as library

abbrev pub library_named : Name → Option Library
library_named name =
    if bytes_eq name (codes "putchar") then Some library.Putchar
    else (if bytes_eq name (codes "exit") then Some library.Exit
    else (if bytes_eq name (codes "getchar") then Some library.Getchar else None))

abbrev pub type_of_library : Library → SourceType
type_of_library library.Putchar = takes (integer Int) (gives (integer Int) false)
type_of_library library.Exit = takes (integer Int) (gives void false)
type_of_library library.Getchar = gives (integer Int) false

-- as many locals as it has parameters
abbrev pub as_many : Library → List ℕ → Bool
as_many library.Getchar [] = true
as_many library.Getchar (i ∷ is) = false
as_many l (i ∷ []) = true
as_many l is = false

-- whether parameters and a result, by their numbers, are those of the function
abbrev pub one_int : Tables → List ℕ → Bool
one_int tables [] = false
one_int tables (p ∷ []) = type_eq (integer Int) (bare tables p)
one_int tables (p ∷ q ∷ ps) = false

abbrev pub no_parameters : List ℕ → Bool
no_parameters [] = true
no_parameters (p ∷ ps) = false

abbrev pub has_parts : Tables → Library → List ℕ → ℕ → Bool
has_parts tables library.Putchar ps r = one_int tables ps && type_eq (integer Int) (bare tables r)
has_parts tables library.Exit ps r = one_int tables ps && type_eq void (bare tables r)
has_parts tables library.Getchar ps r = no_parameters ps && type_eq (integer Int) (bare tables r)

-- a call by its name
abbrev pub gives_as : Library → SourceType → Bool
gives_as library.Putchar t = is_an_int (sort_of (result_type t))
gives_as library.Exit t = is_no_sort (sort_of (result_type t))
gives_as library.Getchar t = is_an_int (sort_of (result_type t))

abbrev pub library_call_fits : Locals → Library → SourceType → List ℕ → Bool
library_call_fits locals l t is = gives_as l t && (as_many l is && are_passed locals is)

-- a call through a pointer that may lead to it
abbrev pub may_lead : Library → SourceType → List ℕ → Bool
may_lead l t is = not (type_eq (type_of_library l) (without_const t)) || as_many l is

abbrev pub may_lead_to_each : SourceType → List ℕ → Bool
may_lead_to_each t is = may_lead library.Getchar t is && (may_lead library.Putchar t is && may_lead library.Exit t is)
