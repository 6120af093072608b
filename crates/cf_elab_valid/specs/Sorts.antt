-- What the sort of a type says of its tree, where the table has no class.
use Rattle.std.specs.Prelude.{◌≡◌, ℕ, ◌<◌, Bool, true, false, ◌||◌, length, Some, slice_get}
use Rattle.cf_types.specs.declared.ty.Fun.{Fun}
use Rattle.cf_types.specs.declared.ty.Ty.{Ty}
use Rattle.cf_types.specs.declared.ty.Ty.TheVariants as ty
use Rattle.cf_classes.specs.LinkName.{scope_code, enum_names}
use Rattle.cf_core.specs.Types.{Name, SourceType, integer, enumeration, pointer, reference, array, is_void}
use Rattle.cf_core.specs.Places.{is_reference}
use Rattle.cf_core.specs.Typing.{is_function}
use Rattle.cf_core.specs.FromTypes.{Tables, type_of}
use Rattle.cf_core_typed.specs.Same.{Same, is_operand}
use Rattle.cf_elab.specs.Operand.{Sort, integral, enumeral, object_pointer, void_pointer, function_pointer, data_pointer, method_pointer, class_sort, array_sort, function_sort, void_sort, reference_sort}

-- a function gives a reference, a scalar or nothing (8.2.5)
abbrev pub is_result : SourceType → Bool
is_result t = is_operand t || is_reference t

-- nothing leads to a reference, and no reference to void (8.2.1, 8.2.2, 8.2.4)
abbrev pub Aims : Tables → Ty → Type 0
Aims T (ty.Ptr t) = is_reference (type_of T t) ≡ false
Aims T (ty.Ref t) = (is_reference (type_of T t) ≡ false) × (is_void (type_of T t) ≡ false)
Aims T (ty.Array t n) = is_reference (type_of T t) ≡ false
Aims T (ty.Fun f) = (g : Fun) → slice_get T.types.funs f ≡ Some g → is_result (type_of T g.result) ≡ true
Aims T other = Unit {0}

abbrev pub NoneToReference : Tables → Type 0
NoneToReference T = (t : ℕ) (v : Ty) → slice_get T.types.types t ≡ Some v → Aims T v

pub record ObjectPointer (T : Tables) (t : ℕ) (u : SourceType) : Type 0 where
  pub known : t < length T.types.types
  pub same : Same u (pointer (type_of T t))
  pub no_function : is_function (type_of T t) ≡ false
  pub no_void : is_void (type_of T t) ≡ false
  pub no_reference : is_reference (type_of T t) ≡ false

pub record VoidPointer (T : Tables) (u : SourceType) : Type 0 where
  pub pointee : ℕ
  pub known : pointee < length T.types.types
  pub same : Same u (pointer (type_of T pointee))
  pub to_void : is_void (type_of T pointee) ≡ true

pub record FunctionPointer (T : Tables) (t : ℕ) (u : SourceType) : Type 0 where
  pub known : t < length T.types.types
  pub same : Same u (pointer (type_of T t))
  pub function : is_function (type_of T t) ≡ true

pub record Elements (T : Tables) (t n : ℕ) (u : SourceType) : Type 0 where
  pub known : t < length T.types.types
  pub same : Same u (array (type_of T t) n)
  pub no_reference : is_reference (type_of T t) ≡ false

pub record Refers (T : Tables) (t : ℕ) (u : SourceType) : Type 0 where
  pub known : t < length T.types.types
  pub same : u ≡ reference (type_of T t)
  pub no_reference : is_reference (type_of T t) ≡ false
  pub no_void : is_void (type_of T t) ≡ false

pub record Named (T : Tables) (e : ℕ) (u : SourceType) : Type 0 where
  pub name : Name
  pub same : Same u (enumeration name)
  pub is : name ≡ scope_code (enum_names T.classes e)

abbrev pub SortIs : Tables → Sort → SourceType → Type 0
SortIs T (integral k) u = Same u (integer k)
SortIs T (enumeral e) u = Named T e u
SortIs T (object_pointer t) u = ObjectPointer T t u
SortIs T void_pointer u = VoidPointer T u
SortIs T (function_pointer t) u = FunctionPointer T t u
SortIs T (data_pointer c t) u = ⊥
SortIs T (method_pointer c f) u = ⊥
SortIs T (class_sort c) u = ⊥
SortIs T (array_sort t n) u = Elements T t n u
SortIs T (function_sort f) u = is_function u ≡ true
SortIs T void_sort u = is_void u ≡ true
SortIs T (reference_sort t) u = Refers T t u
