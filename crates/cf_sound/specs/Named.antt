-- The names that a file has, and the types of the library's functions.
use Rattle.std.specs.Prelude.{◌≡◌, Bool, true, false, List, [], ◌∷◌, map, is_some}
use Rattle.cf_base.specs.declared.kind.Kind.TheVariants.{Int}
use Rattle.cf_name_list.specs.Names.{is_in}
use Rattle.cf_core.specs.declared.unit.CoreFn.{CoreFn}
use Rattle.cf_core.specs.declared.unit.CoreStatic.{CoreStatic}
use Rattle.cf_core.specs.Calls.{function_named}
use Rattle.cf_core.specs.FromUnit.{Unit, file_of}
use Rattle.cf_core.specs.Types.{Name, SourceType, void, integer, takes, gives, same_but_const, is_void}
use Rattle.cf_core_sound.specs.Simple.{has_object}
use Rattle.cf_file_sound.specs.Files.{alone}

abbrev pub function_names : List CoreFn → List Name
function_names functions = map (λ (f : CoreFn). f.name) functions

abbrev pub object_names : List CoreStatic → List Name
object_names objects = map (λ (x : CoreStatic). x.name) objects

-- names that are those of a file's functions
pub record AreFunctions (unit : Unit) (names : List Name) : Type 0 where
  pub at : (q : Name) → is_in names q ≡ is_some (function_named (alone (file_of unit)) q)

-- names that are those of its objects
pub record AreObjects (unit : Unit) (names : List Name) : Type 0 where
  pub at : (q : Name) → is_in names q ≡ has_object (alone (file_of unit)) q

-- a function that takes an int or nothing, and gives an int or nothing

abbrev pub given_type : Bool → SourceType
given_type true = gives (integer Int) false
given_type false = gives void false

abbrev pub signature : Bool → Bool → SourceType
signature true gives_int = takes (integer Int) (given_type gives_int)
signature false gives_int = given_type gives_int

abbrev pub parameters_fit : Bool → List SourceType → Bool
parameters_fit true (p ∷ []) = same_but_const (integer Int) p
parameters_fit false [] = true
parameters_fit takes_int ps = false

abbrev pub result_fits : Bool → SourceType → Bool
result_fits true t = same_but_const (integer Int) t
result_fits false t = is_void t
