-- What declarations enter, and where (3.2, 7.1.6, 9.1, 11.4).
use Rattle.std.specs.Prelude.{ℕ, Bool, true, false, cond, ◌&&◌, List, [], ◌∷◌, ◌++◌, length, bytes_eq, Option, Some, None, is_none}
use Rattle.cf_syntax.specs.declared.asked.Asked.{Asked}
use Rattle.cf_syntax.specs.declared.asked.Asked.TheVariants as asked
use Rattle.cf_syntax.specs.declared.name.Path.{Path}
use Rattle.cf_syntax.specs.declared.specifier.ClassKey.{ClassKey}
use Rattle.cf_syntax.specs.declared.specifier.ClassKey.TheVariants as key
use Rattle.cf_syntax.specs.declared.specifier.Storage.{Storage}
use Rattle.cf_syntax.specs.declared.specifier.Storage.TheVariants as storage
use Rattle.cf_syntax.specs.declared.specifier.TypeSpecifier.{TypeSpecifier}
use Rattle.cf_syntax.specs.declared.specifier.TypeSpecifier.TheVariants as specifier
use Rattle.cf_syntax.specs.declared.type_names.NameKind.{NameKind}
use Rattle.cf_syntax.specs.declared.type_names.NameKind.TheVariants as kind
use Rattle.cf_syntax.specs.NamesData.{Names}
use Rattle.cf_syntax.specs.Entered.{entered_at, find_type, outside_classes}
use Rattle.cf_syntax.specs.Names.{find_here, is_defined, with_class}
use Rattle.cf_syntax.specs.Named.{kind_at, inside}
use Rattle.cf_unit.specs.declared.reading.Given.{Given}
use Rattle.cf_unit.specs.declared.specifier.Specifier.{Specifier}
use Rattle.cf_unit.specs.declared.specifier.Specifier.TheVariants as given
use Rattle.cf_unit.specs.Known.{Known, with_names, open_scopes}
use Rattle.cf_unit.specs.Declares.{Shape, plain_name}

-- a name in the innermost scope
abbrev pub entered_here : Names → List ℕ → NameKind → Names
entered_here names name kind = entered_at (open_scopes names) names name kind

-- a new class with this name in the last of so many open scopes
abbrev pub new_class_at : ℕ → Names → List ℕ → Names
new_class_at n names name = entered_at n (with_class names) name (kind.OfClass (length names.classes))

-- ---- what a name stands for

abbrev pub if_asked : Option Asked → (Asked → Option NameKind) → Option NameKind
if_asked None ask = None
if_asked (Some from) ask = ask from

-- what the last name of a path stands for
abbrev pub path_kind_from : Names → Asked → List (List ℕ) → Option NameKind
path_kind_from names from [] = None
path_kind_from names from (n ∷ []) = kind_at names from n
path_kind_from names from (n ∷ m ∷ ms) = if_asked (inside (kind_at names from n)) (λ next. path_kind_from names next (m ∷ ms))

abbrev pub path_kind : Names → Path → Option NameKind
path_kind names path = path_kind_from names (cond path.from_file asked.File asked.Scopes) path.names

-- a type, also where nothing is known of it
abbrev pub some_type : Option NameKind → NameKind
some_type None = kind.Plain
some_type (Some kind.Value) = kind.Plain
some_type (Some kind.Plain) = kind.Plain
some_type (Some (kind.OfClass class)) = kind.OfClass class

-- ---- specifiers

-- the name of a path that is one name
abbrev pub one_name : Path → Option (List ℕ)
one_name path = cond path.from_file None (single path.names)
  where
    single : List (List ℕ) → Option (List ℕ)
    single [] = None
    single (n ∷ []) = Some n
    single (n ∷ m ∷ ms) = None

-- `class B` where B is found, or enters a new class: a friend in the smallest scope that isn't a class's
abbrev pub named_class : Bool → Names → List ℕ → Option NameKind → NameKind × Names
named_class is_friend names name (Some k) = (some_type (Some k), names)
named_class is_friend names name None =
    (kind.OfClass (length names.classes), new_class_at (cond is_friend (outside_classes names) (open_scopes names)) names name)

abbrev pub keyed_class : Bool → Names → Path → Option (List ℕ) → NameKind × Names
keyed_class is_friend names path None = (some_type (path_kind names path), names)
keyed_class is_friend names path (Some name) = named_class is_friend names name (find_type names name)

abbrev pub keyed : ClassKey → Bool → Names → Path → NameKind × Names
keyed key.Class is_friend names path = keyed_class is_friend names path (one_name path)
keyed key.Struct is_friend names path = keyed_class is_friend names path (one_name path)
keyed key.Enum is_friend names path = (kind.Plain, names)

abbrev pub nothing_given : Given
nothing_given = record { list = []; kind = None; is_typedef = false; is_friend = false }

abbrev pub with_type : Given → Specifier → NameKind → Given
with_type g s k = record { list = g.list ++ s ∷ []; kind = Some k; is_typedef = g.is_typedef; is_friend = g.is_friend }

abbrev pub is_typedef : Storage → Bool
is_typedef storage.Typedef = true
is_typedef w = false

abbrev pub is_friend : Storage → Bool
is_friend storage.Friend = true
is_friend w = false

abbrev pub with_storage : Given → TypeSpecifier → Bool → Bool → Given
with_storage g w typedef friend =
    record { list = g.list ++ given.Plain w ∷ []; kind = g.kind; is_typedef = cond typedef true g.is_typedef; is_friend = cond friend true g.is_friend }

-- the specifiers with one more that defines nothing, and what is known behind it
abbrev pub given_one : Given → Known → TypeSpecifier → Given × Known
given_one g k (specifier.Storage at w) = (with_storage g (specifier.Storage at w) (is_typedef w) (is_friend w), k)
given_one g k (specifier.Const at) = (with_storage g (specifier.Const at) false false, k)
given_one g k (specifier.Basic at b) = (with_type g (given.Plain (specifier.Basic at b)) kind.Plain, k)
given_one g k (specifier.Elaborated at c path) =
    let found = keyed c g.is_friend k.names path in (with_type g (given.Plain (specifier.Elaborated at c path)) found.0, with_names k found.1)
given_one g k (specifier.Named path) = (with_type g (given.Plain (specifier.Named path)) (some_type (path_kind k.names path)), k)

abbrev pub given_all : Given × Known → List TypeSpecifier → Given × Known
given_all s [] = s
given_all s (w ∷ ws) = given_all (given_one s.0 s.1 w) ws

-- ---- declarators

abbrev pub is_own : Option (List ℕ) → List ℕ → Bool
is_own None name = false
is_own (Some own) name = bytes_eq own name

-- a constructor: the class's own name with parameters and no type (12.1)
abbrev pub is_constructor : Known → Given → Shape → List ℕ → Bool
is_constructor k g s name = is_none g.kind && (s.has_params && is_own k.own name)

abbrev pub type_kind : Bool → Option NameKind → NameKind
type_kind true (Some k) = k
type_kind true None = kind.Plain
type_kind false k = kind.Plain

-- what a declared name stands for: a `typedef` name is a type, and a class where nothing stands round the name
abbrev pub declared_kind : Given → Shape → NameKind
declared_kind g s = cond g.is_typedef (type_kind s.is_bare g.kind) kind.Value

abbrev pub entered_names : ℕ → Given → Known → Shape → List (List ℕ) → Names
entered_names home g k s [] = k.names
entered_names home g k s (name ∷ more) = cond (is_constructor k g s name) k.names
    (entered_at (cond g.is_friend (outside_classes k.names) home) k.names name (declared_kind g s))

-- what is known directly behind a declarator of a declaration in the last of so many open scopes: a constructor and a name that a
-- class qualifies enter nothing
abbrev pub entered : ℕ → Given → Known → Shape → Known
entered home g k s = with_names k (entered_names home g k s (plain_name s.name))

abbrev pub with_values : Names → List (List ℕ) → Names
with_values names [] = names
with_values names (n ∷ ns) = with_values (entered_here names n kind.Value) ns

-- ---- classes

-- the class that a definition with this name defines: the one that the name has in the innermost scope, if that isn't defined yet, and
-- a new one otherwise
abbrev pub class_if_open : Names → List ℕ → ℕ → Bool → ℕ × Names
class_if_open names name class true = (length names.classes, new_class_at (open_scopes names) names name)
class_if_open names name class false = (class, names)

abbrev pub class_found : Names → List ℕ → Option NameKind → ℕ × Names
class_found names name None = (length names.classes, new_class_at (open_scopes names) names name)
class_found names name (Some kind.Value) = (length names.classes, new_class_at (open_scopes names) names name)
class_found names name (Some kind.Plain) = (length names.classes, new_class_at (open_scopes names) names name)
class_found names name (Some (kind.OfClass class)) = class_if_open names name class (is_defined names class)

abbrev pub class_to_define : Names → Option (ℕ × List ℕ) → ℕ × Names
class_to_define names None = (length names.classes, with_class names)
class_to_define names (Some n) = class_found names n.1 (find_here names n.1)

-- the number of a base that is defined; others give no names
abbrev pub base_number : Names → Option NameKind → List ℕ
base_number names None = []
base_number names (Some kind.Value) = []
base_number names (Some kind.Plain) = []
base_number names (Some (kind.OfClass class)) = cond (is_defined names class) (class ∷ []) []
