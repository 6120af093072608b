-- What always holds of an environment without classes, and of the values that are elaborated in it.
use Rattle.std.specs.Prelude.{◌≡◌, ℕ, ◌<◌, Bool, true, false, IsTrue, List, [], ◌∷◌, ◌++◌, length, ℤ, Option, None, Some, All}
use Rattle.cf_base.specs.Integers.{fits}
use Rattle.cf_base.specs.declared.kind.Kind.TheVariants as kind
use Rattle.cf_types.specs.declared.ty.Ty.{Ty}
use Rattle.cf_types.specs.declared.ty.Ty.TheVariants as ty
use Rattle.cf_types.specs.declared.ty.Fun.{Fun}
use Rattle.cf_types.specs.Table.{Table, IsTable}
use Rattle.cf_classes.specs.declared.label.Label.{Label}
use Rattle.cf_elab.specs.Env.{Env, Entity, Object, FunctionEntry, Hand, object, functions, alias, class_name, enum_name, enumerator}
use Rattle.cf_elab.specs.Members.{class_of_body}
use Rattle.cf_elab_env.specs.declared.sort.Sort.{Sort as FoundSort}
use Rattle.cf_elab_env.specs.declared.sort.Sort.TheVariants as sort
use Rattle.cf_elab.specs.Operand.{Value, Sort, integral, enumeral, function_sort, sort_of}

-- ---- types

-- no class, and no pointer to a member of one
abbrev pub without_class : Ty → Bool
without_class (ty.Class c) = false
without_class (ty.MemData c t) = false
without_class (ty.MemFun c f) = false
without_class other = true

abbrev pub HasNoClass : Table → Type 0
HasNoClass types = All (λ t. IsTrue (without_class t)) types.types

-- an enumeration is one of so many that are declared
abbrev pub EnumGiven : ℕ → Ty → Type 0
EnumGiven count (ty.Enum e) = e < count
EnumGiven count other = Unit {0}

abbrev pub IsType : Table → ℕ → Type 0
IsType types t = t < length types.types

-- the types that a sort names are in the table
abbrev pub IsSort : Table → FoundSort → Type 0
IsSort types (sort.Integral k) = Unit {0}
IsSort types (sort.Enumeral e) = Unit {0}
IsSort types (sort.ObjectPointer t) = IsType types t
IsSort types sort.VoidPointer = Unit {0}
IsSort types (sort.FunctionPointer t) = IsType types t
IsSort types (sort.Array t n) = IsType types t
IsSort types (sort.Function f) = f < length types.funs
IsSort types sort.Void = Unit {0}
IsSort types (sort.Reference t) = IsType types t

-- no type is lost
pub record Grows (old new : Table) : Type 0 where
  pub more_types : List Ty
  pub more_funs : List Fun
  pub types : new.types ≡ old.types ++ more_types
  pub funs : new.funs ≡ old.funs ++ more_funs
  pub sorts : (t : ℕ) → IsType old t → sort_of new t ≡ sort_of old t

-- ---- values

-- whether a number is one of the type, where the type is an integer or an enumeration
abbrev pub fits_sort : Sort → ℤ → Bool
fits_sort (integral k) z = fits k z
fits_sort (enumeral e) z = fits kind.Int z
fits_sort other z = true

abbrev pub FitsIn : Table → ℕ → Option ℤ → Type 0
FitsIn types t None = Unit {0}
FitsIn types t (Some z) = IsTrue (fits_sort (sort_of types t) z)

-- a value's type is in the table, and a number that is known is one of that type
pub record Known (types : Table) (v : Value) : Type 0 where
  pub typed : IsType types v.type
  pub number : FitsIn types v.type v.number

-- ---- names

pub record IsObject (types : Table) (x : Object) : Type 0 where
  pub typed : IsType types x.type
  pub number : FitsIn types x.type x.number

abbrev pub IsFunctionSort : Sort → Type 0
IsFunctionSort (function_sort f) = Unit {0}
IsFunctionSort other = ⊥

pub record IsEntry (types : Table) (f : FunctionEntry) : Type 0 where
  pub typed : IsType types f.type
  pub no_defaults : f.defaults ≡ []
  pub function : IsFunctionSort (sort_of types f.type)

-- what a name stands for, where so many functions are declared
abbrev pub IsEntity : Table → ℕ → Entity → Type 0
IsEntity types count (object x) = IsObject types x
IsEntity types count (functions fs) = All (λ f. f < count) fs
IsEntity types count (alias t) = IsType types t
IsEntity types count (class_name c) = ⊥
IsEntity types count (enum_name e) = Unit {0}
IsEntity types count (enumerator t z) = IsType types t × FitsIn types t z

abbrev pub AreNames : ℕ → List (List ℕ × ℕ) → Type 0
AreNames count names = All (λ n. n.1 < count) names

pub record IsHand (types : Table) (hand : Hand) : Type 0 where
  pub no_class : class_of_body hand.kind ≡ None
  pub result : IsType types hand.result
  pub locals : All (λ t. IsType types t) hand.locals

-- ---- all that is known

pub record IsEnv (env : Env) : Type 0 where
  pub no_class : env.classes.defined ≡ []
  pub no_open_class : env.open_classes ≡ []
  pub table : IsTable env.types
  pub no_class_type : HasNoClass env.types
  pub enums : All (EnumGiven (length env.classes.enums)) env.types.types
  pub no_outer : All (λ (l : Label). l.outer ≡ None) env.classes.enums
  pub entities : All (λ e. IsEntity env.types (length env.entries) e) env.entities
  pub entries : All (λ f. IsEntry env.types f) env.entries
  pub outer : All (λ names. AreNames (length env.entities) names) env.scopes.outer
  pub inner : AreNames (length env.entities) env.scopes.inner
  pub linked : All (λ x. x.1 < length env.entities) env.linked
  pub hand : IsHand env.types env.hand
