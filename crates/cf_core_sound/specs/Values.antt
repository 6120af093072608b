-- What a value has to be, to be one of a type: a number of its kind, a place of an object of the type, a function of that very type.
use Rattle.std.specs.Prelude.{◌≡◌, ◌⊎◌, ◌<◌, ◌≤◌, true, false, [], ◌∷◌, ℤ, Option, Some, None, if◌then◌else◌, codes, bytes_eq}
use Rattle.cf_base.specs.declared.kind.Kind.TheVariants.{Int}
use Rattle.cf_base.specs.Integers.{fits}
use Rattle.cf_core.specs.Types.{Name, SourceType, void, integer, enumeration, class, pointer, reference, array, takes, gives, data_member, function_member, const, is_void}
use Rattle.cf_core.specs.Core.{Function, item, past, field, within}
use Rattle.cf_core.specs.Places.{Route, Place, type_at}
use Rattle.cf_core.specs.Store.{Value, Nothing, Missing, Built, Number, Null, At, Code, DataMember, FunctionMember}
use Rattle.cf_core.specs.Run.{State}
use Rattle.cf_core.specs.Calls.{Program, is_library, function_named}
use Rattle.cf_core.specs.Typing.{Typing, is_function}
use Rattle.cf_core_sound.specs.Proper.{most, shape}

-- the types of the library's functions
abbrev pub library_type : Name → SourceType
library_type name =
    if bytes_eq name (codes "putchar") then takes (integer Int) (gives (integer Int) false)
    else (if bytes_eq name (codes "getchar") then gives (integer Int) false else takes (integer Int) (gives void false))

abbrev pub type_of_function : Option Function → Option SourceType
type_of_function None = None
type_of_function (Some f) = Some f.type

-- the type of the function of this name
abbrev pub named_type : Program → Name → Option SourceType
named_type P name = if is_library name then Some (library_type name) else type_of_function (function_named P name)

-- a function of this shape
pub record IsFunction (P : Program) (name : Name) (t : SourceType) : Type 0 where
  pub type : SourceType
  pub found : named_type P name ≡ Some type
  pub same : shape type ≡ t

-- a route through elements whose numbers an int has
abbrev pub IsNear : Route → Type 0
IsNear [] = Unit {0}
IsNear (item i ∷ π) = (i ≤ most) × IsNear π
IsNear (past ∷ π) = IsNear π
IsNear (field i ∷ π) = IsNear π
IsNear (within r ∷ π) = IsNear π

-- a place of an object of this shape, or of any object where it is void
pub record IsPlace (s : State) (t : SourceType) (p : Place) : Type 0 where
  pub below : p.object < s.next
  pub same : (is_void t ≡ true) ⊎ (shape (type_at [] (s.object p.object).type p.route) ≡ t)
  pub near : IsNear p.route

-- what leads to an object or a function of this shape
abbrev pub Leads : Program → State → SourceType → Value → Type 0
Leads P s t Nothing = ⊥
Leads P s t Missing = ⊥
Leads P s t Built = ⊥
Leads P s t (Number z) = ⊥
Leads P s t Null = ⊥
Leads P s t (At p) = (is_function t ≡ false) × IsPlace s t p
Leads P s t (Code f) = (is_function t ≡ true) × IsFunction P f t
Leads P s t (DataMember path i) = ⊥
Leads P s t (FunctionMember path f) = ⊥

abbrev pub IsNull : Value → Type 0
IsNull v = v ≡ Null

-- a value of this shape
abbrev pub IsOf : Program → State → SourceType → Value → Type 0
IsOf P s void v = v ≡ Nothing
IsOf P s (integer k) v = (z : ℤ) × (v ≡ Number z) × (fits k z ≡ true)
IsOf P s (enumeration e) v = (z : ℤ) × (v ≡ Number z) × (fits Int z ≡ true)
IsOf P s (class c) v = ⊥
IsOf P s (pointer t) v = IsNull v ⊎ Leads P s t v
IsOf P s (reference t) v = Leads P s t v
IsOf P s (array t n) v = ⊥
IsOf P s (takes p t) v = ⊥
IsOf P s (gives t c) v = ⊥
IsOf P s (data_member c t) v = IsNull v
IsOf P s (function_member c t) v = IsNull v
IsOf P s (const t) v = ⊥

-- The value is as its node's typing says: what a place leads to, and a value of each type that the node has.
pub record Fits (P : Program) (s : State) (x : Typing) (v : Value) : Type 0 where
  pub place : (t : SourceType) → x.place ≡ Some t → Leads P s (shape t) v
  pub type : (t : SourceType) → x.type ≡ Some t → IsOf P s (shape t) v
  pub number : (z : ℤ) → x.number ≡ Some z → v ≡ Number z
  pub value : (t : SourceType) → x.value t ≡ true → IsOf P s (shape t) v
  pub start : (t : SourceType) → x.start t ≡ true → IsOf P s (shape t) v

-- so it is, or it is that of a function that ended without one
abbrev pub Fit : Program → State → Typing → Value → Type 0
Fit P s x v = (v ≡ Missing) ⊎ Fits P s x v

-- A node that is something: a place, or a value or an initialiser of some type.
pub data Told (x : Typing) : Type 0 where
  told_place : (t : SourceType) → x.place ≡ Some t → Told x
  told_type : (t : SourceType) → x.type ≡ Some t → Told x
  told_number : (z : ℤ) → x.number ≡ Some z → Told x
  told_value : (t : SourceType) → x.value t ≡ true → Told x
  told_start : (t : SourceType) → x.start t ≡ true → Told x
