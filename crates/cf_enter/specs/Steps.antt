-- What specifiers and parameters enter, in steps.
use Rattle.std.specs.Prelude.{ℕ, Bool, true, false, List, [], ◌∷◌, ◌++◌, map, cond, Option, Some, None}
use Rattle.cf_syntax.specs.declared.declarator.Param.{Param, fold-Param}
use Rattle.cf_syntax.specs.declared.specifier.TypeSpecifier.{TypeSpecifier}
use Rattle.cf_syntax.specs.declared.specifier.TypeSpecifier.TheVariants as specifier
use Rattle.cf_syntax.specs.declared.type_names.NameKind.{NameKind}
use Rattle.cf_syntax.specs.declared.type_names.NameKind.TheVariants as kind
use Rattle.cf_syntax.specs.NamesData.{Names}
use Rattle.cf_unit.specs.declared.reading.Given.{Given}
use Rattle.cf_unit.specs.declared.specifier.Specifier.TheVariants as given
use Rattle.cf_unit.specs.Rule.{at_once}
use Rattle.cf_unit.specs.Known.{Known}
use Rattle.cf_unit.specs.Declares.{Shape, joined, tree_step, expr_step, param_step, type_step}
use Rattle.cf_unit.specs.Enters.{keyed, some_type, path_kind, is_typedef, is_friend}

-- what is known where names alone are asked, in a class of this name or in none
abbrev pub known_by : Names → Option (List ℕ) → Known
known_by names own = record { names = names; bodies = at_once; own = own }

-- ---- specifiers

-- what a specifier's type stands for, if it names one, and the names behind it
abbrev pub type_of : Bool → Names → TypeSpecifier → Option NameKind × Names
type_of friend names (specifier.Storage at w) = (None, names)
type_of friend names (specifier.Const at) = (None, names)
type_of friend names (specifier.Basic at b) = (Some kind.Plain, names)
type_of friend names (specifier.Elaborated at c path) = let found = keyed c friend names path in (Some found.0, found.1)
type_of friend names (specifier.Named path) = (Some (some_type (path_kind names path)), names)

abbrev pub typedefs : TypeSpecifier → Bool
typedefs (specifier.Storage at w) = is_typedef w
typedefs (specifier.Const at) = false
typedefs (specifier.Basic at b) = false
typedefs (specifier.Elaborated at c path) = false
typedefs (specifier.Named path) = false

abbrev pub befriends : TypeSpecifier → Bool
befriends (specifier.Storage at w) = is_friend w
befriends (specifier.Const at) = false
befriends (specifier.Basic at b) = false
befriends (specifier.Elaborated at c path) = false
befriends (specifier.Named path) = false

abbrev pub kind_or : Option NameKind → Option NameKind → Option NameKind
kind_or None before = before
kind_or (Some k) before = Some k

abbrev pub given_by : Given → TypeSpecifier → Option NameKind → Given
given_by g w k = record {
  list = g.list ++ given.Plain w ∷ [];
  kind = kind_or k g.kind;
  is_typedef = cond (typedefs w) true g.is_typedef;
  is_friend = cond (befriends w) true g.is_friend;
}

-- ---- parameters

-- the name of a parameter
abbrev pub param_name : Param → List (List ℕ)
param_name = fold-Param Shape (Unit {0}) (List (List ℕ)) (Unit {0}) tree_step expr_step param_step type_step

abbrev pub names_of : List Param → List (List ℕ)
names_of all = joined (map param_name all)
