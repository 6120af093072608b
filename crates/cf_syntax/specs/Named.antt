-- Names and types' names as tokens spell them (5.1, 7.1.6, 10.4). Each is as long as it can be.
use Rattle.std.specs.Prelude.{ℕ, Bool, true, false, cond, List, [], ◌∷◌, ◌++◌, map, drop, Option, Some, None, nat_eq, is_some}
use Rattle.cf_tokens.specs.declared.token.Token.{Token}
use Rattle.cf_syntax.specs.declared.asked.Asked.{Asked}
use Rattle.cf_syntax.specs.declared.asked.Asked.TheVariants as asked
use Rattle.cf_syntax.specs.declared.name.Path.{Path}
use Rattle.cf_syntax.specs.declared.reading.Qualifiers.{Qualifiers}
use Rattle.cf_syntax.specs.declared.specifier.Pointer.{Pointer}
use Rattle.cf_syntax.specs.declared.specifier.Pointer.TheVariants as pointer
use Rattle.cf_syntax.specs.declared.type_names.NameKind.{NameKind}
use Rattle.cf_syntax.specs.declared.type_names.NameKind.TheVariants as kind
use Rattle.cf_syntax.specs.declared.type_names.Scope.TheVariants as open_scope
use Rattle.cf_syntax.specs.NamesData.{Names}
use Rattle.cf_syntax.specs.Names.{find, find_in, find_in_file}
use Rattle.cf_syntax.specs.Parse.{Parse, pure, then, repeat, word}
use Rattle.cf_syntax.specs.Words.{front, place, ident_at, scope, star, ampersand, const_word}

-- ---- what a name is where it is asked

abbrev pub kind_at : Names → Asked → List ℕ → Option NameKind
kind_at names asked.Scopes name = find names name
kind_at names asked.File name = find_in_file names name
kind_at names (asked.Class class) name = find_in names class name
kind_at names asked.Nothing name = None

-- where the name behind a type's name and `::` is asked, if it is a type's name
abbrev pub inside : Option NameKind → Option Asked
inside None = None
inside (Some kind.Value) = None
inside (Some kind.Plain) = Some asked.Nothing
inside (Some (kind.OfClass class)) = Some (asked.Class class)

abbrev pub inside_of : Names → Asked → Option (List ℕ) → Option Asked
inside_of names asked None = None
inside_of names asked (Some name) = inside (kind_at names asked name)

-- the same for the identifier at the front
abbrev pub type_at : Names → Asked → List Token → Option Asked
type_at names asked ts = inside_of names asked (ident_at ts)

-- the scope of a class, if it is one
abbrev pub class_of : Asked → List ℕ
class_of asked.Scopes = []
class_of asked.File = []
class_of (asked.Class class) = class ∷ []
class_of asked.Nothing = []

-- the names with the scopes of these classes open too, the last innermost
abbrev pub opened : Names → List ℕ → Names
opened names classes = record { classes = names.classes; file = names.file; inner = names.inner ++ map open_scope.Class classes }

-- ---- qualifiers: TYPE "::"

abbrev pub grown : Qualifiers → List ℕ → Asked → Qualifiers
grown q name next = record { from_file = q.from_file; names = q.names ++ name ∷ []; classes = q.classes ++ class_of next; asked = next }

abbrev pub qualified : Option Asked → Option (List ℕ) → Bool → Qualifiers → Parse Qualifiers
qualified None ident colons q ts = None
qualified (Some next) None colons q ts = None
qualified (Some next) (Some name) false q ts = None
qualified (Some next) (Some name) true q ts = Some (grown q name next, ts)

abbrev pub qualifier : Names → Qualifiers → Parse Qualifiers
qualifier names q ts = qualified (type_at names q.asked ts) (ident_at ts) (nat_eq (front (drop 1 ts)) scope) q (drop 2 ts)

abbrev pub unqualified : Bool → Qualifiers
unqualified from_file = record { from_file = from_file; names = []; classes = []; asked = cond from_file asked.File asked.Scopes }

-- ["::"] {TYPE "::"}
abbrev pub qualifiers : Names → Parse Qualifiers
qualifiers names ts = cond (nat_eq (front ts) scope) (repeat (qualifier names) (unqualified true) (drop 1 ts)) (repeat (qualifier names) (unqualified false) ts)

abbrev pub path_of : ℕ → Qualifiers → List ℕ → Path
path_of at q name = record { at = at; from_file = q.from_file; names = q.names ++ name ∷ [] }

-- ---- qtype = ["::"] TYPE {"::" TYPE}, with no "::" behind it

abbrev pub last_type : ℕ → Qualifiers → Option Asked → Option (List ℕ) → Parse Path
last_type at q None ident ts = None
last_type at q (Some next) None ts = None
last_type at q (Some next) (Some name) ts = Some (path_of at q name, ts)

abbrev pub type_path : Names → Parse Path
type_path names ts = then (qualifiers names) (λ q us. last_type (place ts) q (type_at names q.asked us) (ident_at us) (drop 1 us)) ts

-- ---- qid = ["::"] {TYPE "::"} ID

-- a qualifier with an identifier behind it
abbrev pub before_ident : Names → Qualifiers → Parse Qualifiers
before_ident names q = then (qualifier names q) (λ more us. cond (is_some (ident_at us)) (Some (more, us)) None)

abbrev pub last_ident : ℕ → Qualifiers → Option (List ℕ) → Parse Path
last_ident at q None ts = None
last_ident at q (Some name) ts = Some (path_of at q name, ts)

abbrev pub ident_path_from : Names → ℕ → Bool → Parse Path
ident_path_from names at from_file = then (repeat (before_ident names) (unqualified from_file)) (λ q us. last_ident at q (ident_at us) (drop 1 us))

abbrev pub ident_path : Names → Parse Path
ident_path names ts = cond (nat_eq (front ts) scope) (ident_path_from names (place ts) true (drop 1 ts)) (ident_path_from names (place ts) false ts)

-- ---- ptr = "*" [const] | "&" | qtype "::" "*" [const]

abbrev pub const_behind : {A : Type 0} → (Bool → A) → Parse A
const_behind make ts = cond (nat_eq (front ts) const_word) (Some (make true, drop 1 ts)) (Some (make false, ts))

abbrev pub no_names : List (List ℕ) → Bool
no_names [] = true
no_names (n ∷ ns) = false

abbrev pub to_member : Names → Parse Pointer
to_member names ts = then (qualifiers names) (λ q us.
    cond (no_names q.names) None
    (then (word star) (λ at. const_behind (λ is_const. pointer.ToMember (place ts) (record { at = place ts; from_file = q.from_file; names = q.names }) is_const)) us)) ts

abbrev pub one_pointer : Names → Parse Pointer
one_pointer names ts =
    cond (nat_eq (front ts) star) (const_behind (λ is_const. pointer.To (place ts) is_const) (drop 1 ts))
    (cond (nat_eq (front ts) ampersand) (Some (pointer.Reference (place ts), drop 1 ts)) (to_member names ts))

-- {ptr}, as long as it can be
abbrev pub pointers : Names → Parse (List Pointer)
pointers names = repeat (λ before. then (one_pointer names) (λ p. pure (before ++ p ∷ []))) []
