-- What the code's types, by numbers of a file's table, stand for.
use Rattle.std.specs.Prelude.{◌≡◌, ℕ, ◌<◌, Bool, true, false, List, [], length, map, All, Option, Some, None, slice_get}
use Rattle.cf_base.specs.declared.kind.Kind.TheVariants.{Char}
use Rattle.cf_types.specs.declared.ty.Fun.{Fun}
use Rattle.cf_types.specs.declared.ty.Ty.{Ty}
use Rattle.cf_types.specs.declared.ty.Ty.TheVariants as ty
use Rattle.cf_types.specs.Table.{parts_of_fun}
use Rattle.cf_classes.specs.LinkName.{scope_code, enum_names}
use Rattle.cf_core.specs.Types.{SourceType, void, integer, enumeration, class, pointer, reference, array, data_member, function_member, gives, without_const, parameters, result}
use Rattle.cf_core.specs.Places.{is_reference}
use Rattle.cf_core.specs.Classes.{Class}
use Rattle.cf_core.specs.FromClasses.{classes_in}
use Rattle.cf_core.specs.FromTypes.{Tables, type_of, fun_type, taking, class_code}
use Rattle.cf_lower_layout.specs.Sorts.{Sort, number, address, code, sort_to}
use Rattle.cf_lower.specs.Kept.{referred}
use Rattle.cf_lower_types.specs.declared.form.Form.{Form}
use Rattle.cf_lower_types.specs.declared.form.Form.TheVariants as form
use Rattle.cf_lower_types.specs.declared.place.PlaceType.{PlaceType}
use Rattle.cf_lower_types.specs.declared.place.PlaceType.TheVariants as place
use Rattle.cf_lower_types.specs.declared.scalar.Scalar.{Scalar}
use Rattle.cf_lower_types.specs.declared.scalar.Scalar.TheVariants as scalar

abbrev pub classes_of : Tables → List Class
classes_of tables = classes_in tables tables.classes.defined

-- the type of this number, without any const
abbrev pub bare : Tables → ℕ → SourceType
bare tables t = without_const (type_of tables t)

-- the function type of this number
abbrev pub fun_at : Tables → ℕ → SourceType
fun_at tables f = fun_type (type_of tables) (slice_get tables.types.funs f)

-- the type of this form, without any const
abbrev pub form_type : Tables → Form → SourceType
form_type tables form.Void = void
form_type tables (form.Integer k) = integer k
form_type tables (form.Enumeration e) = enumeration (scope_code (enum_names tables.classes e))
form_type tables (form.Class c) = class (class_code tables.classes c)
form_type tables (form.Pointer t) = pointer (bare tables t)
form_type tables (form.Reference t) = reference (bare tables t)
form_type tables (form.Array t n) = array (bare tables t) n
form_type tables (form.Function f) = without_const (fun_at tables f)
form_type tables (form.DataMember c t) = data_member (class_code tables.classes c) (bare tables t)
form_type tables (form.FunctionMember c f) = function_member (class_code tables.classes c) (without_const (fun_at tables f))

-- the enumeration that a type names itself was given by the classes
abbrev pub HasEnum : Tables → Ty → Type 0
HasEnum tables (ty.Enum e) = e < length tables.classes.enums
HasEnum tables v = Unit {0}

-- the function type is there, and its parts stand before a number
pub record NamesFun (tables : Tables) (n f : ℕ) : Type 0 where
  pub within : f < length tables.types.funs
  pub parts : All (λ p. p < n) (parts_of_fun (slice_get tables.types.funs f))

-- what a form names is there, and stands before a number
abbrev pub Named : Tables → ℕ → Form → Type 0
Named tables n form.Void = Unit {0}
Named tables n (form.Integer k) = Unit {0}
Named tables n (form.Enumeration e) = e < length tables.classes.enums
Named tables n (form.Class c) = Unit {0}
Named tables n (form.Pointer t) = t < n
Named tables n (form.Reference t) = t < n
Named tables n (form.Array t m) = t < n
Named tables n (form.Function f) = NamesFun tables n f
Named tables n (form.DataMember c t) = t < n
Named tables n (form.FunctionMember c f) = NamesFun tables n f

-- the type of a place
abbrev pub type_in : Tables → PlaceType → SourceType
type_in tables (place.Of t) = bare tables t
type_in tables place.Void = void
type_in tables place.Character = integer Char
type_in tables (place.Characters n) = array (integer Char) n

abbrev pub sort_in : Tables → Scalar → Sort
sort_in tables (scalar.Number k) = number k
sort_in tables (scalar.Address t) = address (type_in tables t)
sort_in tables (scalar.Code t) = code (bare tables t)

abbrev pub is_code : Sort → Bool
is_code (number k) = false
is_code (address t) = false
is_code (code t) = true

-- the type that a reference is to, if it is one
abbrev pub Refers : Tables → ℕ → Option ℕ → Type 0
Refers tables t None = is_reference (type_of tables t) ≡ false
Refers tables t (Some u) = (is_reference (type_of tables t) ≡ true) × (referred (type_of tables t) ≡ type_of tables u)

-- a type that is no function's has no parameters and no result
pub record IsNoFunction (t : SourceType) : Type 0 where
  pub code : is_code (sort_to t) ≡ false
  pub parameters : parameters t ≡ []
  pub result : result t ≡ void

-- the function type of this number, if it is one
abbrev pub IsFunction : Tables → ℕ → Option Fun → Type 0
IsFunction tables t None = IsNoFunction (type_of tables t)
IsFunction tables t (Some f) = type_of tables t ≡ taking (map (type_of tables) f.params) (gives (type_of tables f.result) f.is_const)
