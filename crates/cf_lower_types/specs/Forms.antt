-- What is asked of the forms of types.
use Rattle.std.specs.Prelude.{ℕ, ◌/◌, Bool, true, false, Option, Some, None}
use Rattle.cf_base.specs.declared.kind.Kind.{Kind}
use Rattle.cf_base.specs.declared.kind.Kind.TheVariants.{Char}
use Rattle.cf_base.specs.Integers.{width}
use Rattle.cf_types.specs.declared.ty.Ty.{Ty}
use Rattle.cf_types.specs.declared.ty.Ty.TheVariants as ty
use Rattle.cf_lower_types.specs.declared.form.Form.{Form}
use Rattle.cf_lower_types.specs.declared.form.Form.TheVariants as form

-- the type under a const
abbrev pub under_const : Ty → Option ℕ
under_const (ty.Const t) = Some t
under_const v = None

-- the form of what is no const
abbrev pub form_in : Ty → Form
form_in ty.Void = form.Void
form_in (ty.Int k) = form.Integer k
form_in (ty.Enum e) = form.Enumeration e
form_in (ty.Class c) = form.Class c
form_in (ty.Ptr t) = form.Pointer t
form_in (ty.Ref t) = form.Reference t
form_in (ty.Array t n) = form.Array t n
form_in (ty.Fun f) = form.Function f
form_in (ty.MemData c t) = form.DataMember c t
form_in (ty.MemFun c f) = form.FunctionMember c f
form_in (ty.Const t) = form.Void

-- the type that a reference is to
abbrev pub target_in : Ty → Option ℕ
target_in (ty.Ref t) = Some t
target_in v = None

-- the type that an array has for its elements
abbrev pub item_in : Ty → Option ℕ
item_in (ty.Array t n) = Some t
item_in v = None

-- the number of a function's type
abbrev pub function_in : Ty → Option ℕ
function_in (ty.Fun f) = Some f
function_in v = None

abbrev pub is_function_form : Form → Bool
is_function_form (form.Function f) = true
is_function_form x = false

abbrev pub is_scalar_form : Form → Bool
is_scalar_form (form.Integer k) = true
is_scalar_form (form.Enumeration e) = true
is_scalar_form (form.Pointer t) = true
is_scalar_form (form.Reference t) = true
is_scalar_form (form.DataMember c t) = true
is_scalar_form (form.FunctionMember c f) = true
is_scalar_form x = false

-- the elements of an array, and how many there are
abbrev pub elements_in : Form → Option (ℕ × ℕ)
elements_in (form.Array t n) = Some (t, n)
elements_in x = None

-- the kind of its integers, and of what is no integer that of char
abbrev pub kind_in : Form → Kind
kind_in (form.Integer k) = k
kind_in x = Char

-- the bytes of what is no array
abbrev pub bytes_in : Form → ℕ
bytes_in form.Void = 1
bytes_in (form.Integer k) = width k / 8
bytes_in (form.Enumeration e) = 4
bytes_in (form.Class c) = 1
bytes_in (form.Pointer t) = 4
bytes_in (form.Reference t) = 4
bytes_in (form.Array t n) = 1
bytes_in (form.Function f) = 1
bytes_in (form.DataMember c t) = 4
bytes_in (form.FunctionMember c f) = 12
