-- Which calls fit, and which statements that are no control: calls whose result is kept, by name of functions of the program and of the library, and through pointers.
use Rattle.std.specs.Prelude.{ℕ, nat_lt, Bool, true, false, ◌&&◌, ◌||◌, not, if◌then◌else◌, List, [], ◌∷◌, Option, Some, None, is_some, bytes_eq, codes, length}
use Rattle.cf_base.specs.declared.kind.Kind.TheVariants.{Int}
use Rattle.cf_core.specs.Types.{Name, SourceType, without_const, type_eq, same_but_const, result as result_type}
use Rattle.cf_core.specs.Places.{is_scalar}
use Rattle.cf_core.specs.Calls.{is_library}
use Rattle.cf_lower_layout.specs.Sorts.{Sort, number, code, sort_of}
use Rattle.cf_plain.specs.Plain.{Register, call, pointer_call, Plain, set}
use Rattle.cf_plain_frames.specs.Since.{is_among}
use Rattle.cc_whole.specs.declared.types.CType.{CType}
use Rattle.cc_whole_mean.specs.Callee.{putchar, getchar, exit, built_in, same_result, same_types, has_type}
use Rattle.cf_lower.specs.Kept.{Kept, holds, Keeping, Locals, type_of_local, is_argument}
use Rattle.cf_lower.specs.Statements.{signature}
use Rattle.cf_lower.specs.Written.{c_type}
use Rattle.cf_lower_place.specs.View.{View, Reach}
use Rattle.cf_lower_place.specs.Leaf.{is_leaf}

-- a local that is the object of a parameter of calls, and a scalar
abbrev pub is_passed : Locals → ℕ → Bool
is_passed locals i =
    nat_lt i (length locals.types) && ((is_argument locals i && is_scalar (type_of_local locals i)) && is_some (sort_of (type_of_local locals i)))

-- such locals, each once
abbrev pub are_passed : Locals → List ℕ → Bool
are_passed locals [] = true
are_passed locals (i ∷ is) = is_passed locals i && (not (is_among i is) && are_passed locals is)

-- locals of these types, which may differ in const
abbrev pub types_passed : Locals → List ℕ → List SourceType → Bool
types_passed locals [] [] = true
types_passed locals [] (t ∷ ts) = false
types_passed locals (i ∷ is) [] = false
types_passed locals (i ∷ is) (t ∷ ts) = same_but_const (type_of_local locals i) t && types_passed locals is ts

abbrev pub is_an_int : Option Sort → Bool
is_an_int (Some (number Int)) = true
is_an_int s = false

abbrev pub is_no_sort : Option Sort → Bool
is_no_sort None = true
is_no_sort (Some s) = false

-- a pointer to a function of this type
abbrev pub is_code_for : SourceType → Kept → Bool
is_code_for t (holds (code u)) = type_eq u (without_const t)
is_code_for t x = false

-- whether functions of both types have one type in C
abbrev pub same_signature : SourceType → SourceType → Bool
same_signature t u = same_result (signature t).result (signature u).result && same_types (signature t).parameters (signature u).parameters

-- a result of this sort goes through a C local, which is there
abbrev pub has_local : (CType → Bool) → Option Sort → Bool
has_local there None = true
has_local there (Some u) = there (c_type u)

module _ (locals : Locals) where
  abbrev pub one_passed : List ℕ → Bool
  one_passed (i ∷ []) = are_passed locals (i ∷ [])
  one_passed is = false

  abbrev pub none_passed : List ℕ → Bool
  none_passed [] = true
  none_passed (i ∷ is) = false

  -- `putchar`, `exit`, or else `getchar`
  abbrev pub library_fits : Bool → Bool → SourceType → List ℕ → Bool
  library_fits true e t is = is_an_int (sort_of (result_type t)) && one_passed is
  library_fits false true t is = is_no_sort (sort_of (result_type t)) && one_passed is
  library_fits false false t is = is_an_int (sort_of (result_type t)) && none_passed is

  -- these where a pointer may lead to them, as it may where their type is the first
  abbrev pub put_fits : SourceType → SourceType → List ℕ → Bool
  put_fits u t is =
      not (same_but_const u t)
      || (is_an_int (sort_of (result_type t)) && (one_passed is && has_type (signature t).result (signature t).parameters (built_in putchar)))

  abbrev pub exit_fits : SourceType → SourceType → List ℕ → Bool
  exit_fits u t is =
      not (same_but_const u t)
      || (is_no_sort (sort_of (result_type t)) && (one_passed is && has_type (signature t).result (signature t).parameters (built_in exit)))

  abbrev pub get_fits : SourceType → SourceType → List ℕ → Bool
  get_fits u t is =
      not (same_but_const u t)
      || (is_an_int (sort_of (result_type t)) && (none_passed is && has_type (signature t).result (signature t).parameters (built_in getchar)))

module _ (v : View) (r : Reach) where
  abbrev pub call_fits : Register → Name → SourceType → List ℕ → Bool
  call_fits q name t is =
      nat_lt q v.bound
      && (has_local r.results (sort_of (result_type t))
      && (if is_library name then library_fits v.locals (bytes_eq name (codes "putchar")) (bytes_eq name (codes "exit")) t is
      else are_passed v.locals is && r.called name t is))

  abbrev pub pointer_fits : Keeping → Register → Register → SourceType → List ℕ → Bool
  pointer_fits h q p t is =
      nat_lt q v.bound
      && (has_local r.results (sort_of (result_type t))
      && (is_code_for t (h p)
      && (get_fits v.locals (r.library (codes "getchar")) t is
      && (put_fits v.locals (r.library (codes "putchar")) t is
      && (exit_fits v.locals (r.library (codes "exit")) t is && (are_passed v.locals is && r.reached t is))))))

  abbrev pub fits : Keeping → Plain → Bool
  fits h (set q (call name t None is None)) = call_fits q name t is
  fits h (set q (pointer_call None p t is None)) = pointer_fits h q p t is
  fits h s = is_leaf v h s
