-- The table of types: a type's number is its place in the table.
use Rattle.std.specs.Prelude.{◌≡◌, ℕ, ◌⊎◌, ◌<◌, ◌≤◌, ◌^◌, Bool, true, false, IsTrue, List, [], ◌∷◌, ◌++◌, length, slice_get, Option, None, Some, All}
use Rattle.cf_types.specs.declared.ty.Ty.{Ty}
use Rattle.cf_types.specs.declared.ty.Ty.TheVariants as ty
use Rattle.cf_types.specs.declared.ty.Fun.{Fun}

-- the types and the function types, each in order of number
pub record Table : Type 0 where
  pub types : List Ty
  pub funs : List Fun

-- the types that a function type names
abbrev pub fun_parts : Fun → List ℕ
fun_parts f = f.result ∷ f.params

abbrev pub parts_of_fun : Option Fun → List ℕ
parts_of_fun None = []
parts_of_fun (Some f) = fun_parts f

-- the types that a type names, itself or in its function type
abbrev pub parts : List Fun → Ty → List ℕ
parts funs ty.Void = []
parts funs (ty.Int kind) = []
parts funs (ty.Enum number) = []
parts funs (ty.Class class) = []
parts funs (ty.Ptr t) = t ∷ []
parts funs (ty.Ref t) = t ∷ []
parts funs (ty.Array t count) = t ∷ []
parts funs (ty.Fun f) = parts_of_fun (slice_get funs f)
parts funs (ty.MemData class t) = t ∷ []
parts funs (ty.MemFun class f) = parts_of_fun (slice_get funs f)
parts funs (ty.Const t) = t ∷ []

-- the function type that a type names
abbrev pub fun_in : Ty → List ℕ
fun_in ty.Void = []
fun_in (ty.Int kind) = []
fun_in (ty.Enum number) = []
fun_in (ty.Class class) = []
fun_in (ty.Ptr t) = []
fun_in (ty.Ref t) = []
fun_in (ty.Array t count) = []
fun_in (ty.Fun f) = f ∷ []
fun_in (ty.MemData class t) = []
fun_in (ty.MemFun class f) = f ∷ []
fun_in (ty.Const t) = []

-- what a type names stands among the first types and functions of these counts
pub record Names (funs : List Fun) (types count : ℕ) (ty : Ty) : Type 0 where
  pub parts_known : All (λ t. t < types) (parts funs ty)
  pub fun_known : All (λ f. f < count) (fun_in ty)

-- the type that a type names stands before this number
abbrev pub NamesBelow : ℕ → Ty → Type 0
NamesBelow n ty.Void = Unit {0}
NamesBelow n (ty.Int kind) = Unit {0}
NamesBelow n (ty.Enum number) = Unit {0}
NamesBelow n (ty.Class class) = Unit {0}
NamesBelow n (ty.Ptr t) = t < n
NamesBelow n (ty.Ref t) = t < n
NamesBelow n (ty.Array t count) = t < n
NamesBelow n (ty.Fun f) = Unit {0}
NamesBelow n (ty.MemData class t) = t < n
NamesBelow n (ty.MemFun class f) = Unit {0}
NamesBelow n (ty.Const t) = t < n

-- whether const may stand on this type: const of an array is const of its elements, const of a const is one const, and const of a reference or of a
-- function is dropped (7.1.6)
abbrev pub takes_const : Ty → Bool
takes_const (ty.Ref t) = false
takes_const (ty.Array t count) = false
takes_const (ty.Fun f) = false
takes_const (ty.Const t) = false
takes_const other = true

-- whether a parameter has this type in the type of its function: const of a parameter itself is dropped, an array is taken as a pointer to its elements
-- and a function as a pointer to it, and nothing is `void` (8.2.5)
abbrev pub is_parameter : Ty → Bool
is_parameter ty.Void = false
is_parameter (ty.Array t count) = false
is_parameter (ty.Fun f) = false
is_parameter (ty.Const t) = false
is_parameter other = true

-- whether there is a type of this number, and it passes the test
abbrev pub passing : (Ty → Bool) → Option Ty → Bool
passing test None = false
passing test (Some ty) = test ty

abbrev pub passes : (Ty → Bool) → List Ty → ℕ → Bool
passes test types t = passing test (slice_get types t)

-- whether const stands in this type only where it may
abbrev pub is_normal : List Ty → Ty → Bool
is_normal types (ty.Const t) = passes takes_const types t
is_normal types other = true

-- each of these may be the type of a parameter
abbrev pub AreParameters : List Ty → List ℕ → Type 0
AreParameters types params = All (λ p. IsTrue (passes is_parameter types p)) params

-- the list gains this item at its end, unless it has it; the item's place is its one place
pub record Enters {A : Type 0} (old new : List A) (item : A) (place : ℕ) : Type 0 where
  pub within : place < length new
  pub found : slice_get new place ≡ Some item
  pub only : (other : ℕ) → slice_get new other ≡ Some item → other ≡ place
  pub kept : (new ≡ old) ⊎ (new ≡ old ++ item ∷ [])

-- no item has two places
pub record HasOnce {A : Type 0} (items : List A) : Type 0 where
  pub same : (i j : ℕ) (item : A) → slice_get items i ≡ Some item → slice_get items j ≡ Some item → i ≡ j

-- each type names types before it alone, so types are finite trees; no type has two numbers; and types are written in one way: const stands only where
-- it may, and so do the parameters of functions
pub record IsTable (t : Table) : Type 0 where
  pub earlier : (i : ℕ) (ty : Ty) → slice_get t.types i ≡ Some ty → Names t.funs i (length t.funs) ty
  pub known : (f : ℕ) (fun : Fun) → slice_get t.funs f ≡ Some fun → All (λ p. p < length t.types) (fun_parts fun)
  pub normal : (i : ℕ) (ty : Ty) → slice_get t.types i ≡ Some ty → IsTrue (is_normal t.types ty)
  pub parameters : (f : ℕ) (fun : Fun) → slice_get t.funs f ≡ Some fun → AreParameters t.types fun.params
  pub one_number : HasOnce t.types
  pub one_fun_number : HasOnce t.funs
  pub types_fit : length t.types ≤ 2 ^ 32
  pub funs_fit : length t.funs ≤ 2 ^ 32
