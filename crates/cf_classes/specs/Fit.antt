-- The classes of a file in order, and types that fit them.
use Rattle.std.specs.Prelude.{◌≡◌, ℕ, ◌<◌, ◌≤◌, ◌^◌, Bool, false, List, [], ◌∷◌, ◌++◌, length, map, take, Some, slice_get, is_some, IsTrue, All}
use Rattle.std.specs.List.{filter_map, flat_map}
use Rattle.std.specs.Option.{ForSome}
use Rattle.cf_types.specs.declared.ty.Ty.{Ty}
use Rattle.cf_types.specs.declared.ty.Ty.TheVariants as ty
use Rattle.cf_types.specs.Table.{Table}
use Rattle.cf_classes.specs.declared.label.Label.{Label}
use Rattle.cf_classes.specs.declared.class.BaseDef.{BaseDef}
use Rattle.cf_classes.specs.declared.class.ClassDef.{ClassDef}
use Rattle.cf_classes.specs.declared.class.MemberDef.{MemberDef}
use Rattle.cf_classes.specs.declared.class.Friend.{Friend}
use Rattle.cf_classes.specs.declared.class.Friend.TheVariants as friend
use Rattle.cf_classes.specs.declared.class.What.{What}
use Rattle.cf_classes.specs.declared.class.What.TheVariants as what
use Rattle.cf_classes.specs.ClassTable.{ClassTable, latest_first, definition}
use Rattle.cf_classes.specs.TypeTree.{class_in}
use Rattle.cf_classes.specs.Special.{fields_of}
use Rattle.cf_classes.specs.Layout.{layout}

-- the class that a type, a member or a friend names itself
abbrev pub class_of_type : Ty → List ℕ
class_of_type (ty.Class c) = c ∷ []
class_of_type (ty.MemData c t) = c ∷ []
class_of_type (ty.MemFun c f) = c ∷ []
class_of_type other = []

abbrev pub enum_of_type : Ty → List ℕ
enum_of_type (ty.Enum e) = e ∷ []
enum_of_type other = []

abbrev class_of_member : What → List ℕ
class_of_member (what.Nested c) = c ∷ []
class_of_member other = []

abbrev class_of_friend : Friend → List ℕ
class_of_friend (friend.Class c) = c ∷ []
class_of_friend (friend.Function name t) = []
class_of_friend (friend.Member m) = m.class ∷ []

abbrev type_of_friend : Friend → List ℕ
type_of_friend (friend.Class c) = []
type_of_friend (friend.Function name t) = t ∷ []
type_of_friend (friend.Member m) = []

abbrev base_classes : ClassDef → List ℕ
base_classes def = map (λ (b : BaseDef). b.class) def.bases

-- the classes and the types that a definition names
abbrev pub classes_named : ClassDef → List ℕ
classes_named def = base_classes def ++ flat_map (λ (m : MemberDef). class_of_member m.what) def.members ++ flat_map class_of_friend def.friends

abbrev pub types_named : ClassDef → List ℕ
types_named def = map (λ (m : MemberDef). m.ty) def.members ++ flat_map type_of_friend def.friends

-- a list that has nothing twice
abbrev pub IsOnce : List ℕ → Type 0
IsOnce xs = (i j x : ℕ) → slice_get xs i ≡ Some x → slice_get xs j ≡ Some x → i ≡ j

-- whether a class is among these definitions
abbrev pub is_among : List (ℕ × ClassDef) → ℕ → Bool
is_among defs c = is_some (definition defs c)

-- Of each definition, with those before it: the class was declared and isn't defined yet; its bases are defined, and no direct base stands twice (10.1).
pub record Extends (classes : ClassTable) (before : List (ℕ × ClassDef)) (c : ℕ) (def : ClassDef) : Type 0 where
  pub declared : c < length classes.labels
  pub is_new : is_among before c ≡ false
  pub bases_defined : All (λ b. IsTrue (is_among before b)) (base_classes def)
  pub bases_once : IsOnce (base_classes def)
  pub classes_known : All (λ d. d < length classes.labels) (classes_named def)

-- The class table: a class stands in one that was declared before it, and each class is defined after its bases.
pub record IsClassTable (classes : ClassTable) : Type 0 where
  pub labels_in_order : (i : ℕ) (l : Label) → slice_get classes.labels i ≡ Some l → ForSome l.outer (λ outer. outer < i)
  pub enums_inside : (i : ℕ) (l : Label) → slice_get classes.enums i ≡ Some l → ForSome l.outer (λ outer. outer < length classes.labels)
  pub in_order : (i : ℕ) (d : ℕ × ClassDef) → slice_get classes.defined i ≡ Some d → Extends classes (take i classes.defined) d.0 d.1

-- Types and classes fit: each class and enumeration that a type names was given by the classes, and each type that a class names exists;
-- the classes of a class's data members were defined before it; and each defined class has at most 2 ^ 22 bytes.
pub record Fit (types : Table) (classes : ClassTable) : Type 0 where
  pub classes_given : (i : ℕ) (ty : Ty) → slice_get types.types i ≡ Some ty → All (λ c. c < length classes.labels) (class_of_type ty)
  pub enums_given : (i : ℕ) (ty : Ty) → slice_get types.types i ≡ Some ty → All (λ e. e < length classes.enums) (enum_of_type ty)
  pub types_exist : (i : ℕ) (d : ℕ × ClassDef) → slice_get classes.defined i ≡ Some d → All (λ t. t < length types.types) (types_named d.1)
  pub fields_defined : (i : ℕ) (d : ℕ × ClassDef) → slice_get classes.defined i ≡ Some d
      → All (λ c. IsTrue (is_among (take i classes.defined) c)) (filter_map (λ (m : MemberDef). class_in types m.ty) (fields_of d.1))
  pub sizes : (i : ℕ) (d : ℕ × ClassDef) → slice_get classes.defined i ≡ Some d → (layout types (latest_first classes) d.0).whole.size ≤ 2 ^ 22
