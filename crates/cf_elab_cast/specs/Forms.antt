-- What a cast does, by the sorts of the type that it goes to and of the value that it is of (5.4).
use Rattle.std.specs.Prelude.{ℕ, ◌==◌, ◌&&◌, if◌then◌else◌, ℤ, Option}
use Rattle.cf_types.specs.Table.{Table}
use Rattle.cf_elab.specs.Cast.{takes_null}
use Rattle.cf_elab.specs.Operand.{Value, Sort, sort_of, is_zero, integral, enumeral, object_pointer, void_pointer, function_pointer, data_pointer, method_pointer, void_sort, reference_sort}
use Rattle.cf_elab_env.specs.Holds.{FitsIn, IsType}
use Rattle.cf_elab_cast.specs.declared.form.Form.{Form}
use Rattle.cf_elab_cast.specs.declared.form.Form.TheVariants as form
use Rattle.cf_elab_cast.specs.declared.form.Target.{Target}
use Rattle.cf_elab_cast.specs.declared.form.Target.TheVariants as to

abbrev pub target_of : Sort → Target
target_of void_sort = to.Void
target_of (reference_sort u) = to.Place u
target_of other = to.Value

unfoldable pub target_at : Table → ℕ → Target
target_at types t = target_of (sort_of types t)

abbrev pub IsTarget : Table → Target → Type 0
IsTarget types to.Void = Unit {0}
IsTarget types (to.Place u) = IsType types u
IsTarget types to.Value = Unit {0}

abbrev pub form_of : Sort → Sort → Form
form_of (integral k) (integral l) = form.Fit
form_of (integral k) (enumeral e) = form.Fit
form_of (enumeral e) (integral k) = form.Enumeration
form_of (enumeral e) (enumeral f) = if e == f then form.Same else form.Enumeration
form_of (object_pointer u) (object_pointer v) = form.Const
form_of (object_pointer u) void_pointer = form.FromVoid u
form_of void_pointer (object_pointer v) = form.ToVoid
form_of void_pointer void_pointer = form.Same
form_of (function_pointer u) (function_pointer v) = form.Const
form_of (data_pointer c u) (data_pointer d v) = form.Const
form_of (method_pointer c f) (method_pointer d g) = form.Const
form_of s r = form.None

-- the constant 0 is a null pointer of every kind
abbrev pub plain_form : Sort → Sort → Option ℤ → Form
plain_form s r z = if is_zero z && takes_null s then form.Null else form_of s r

-- of a plain value of the second type, with this number
unfoldable pub form_at : Table → ℕ → ℕ → Option ℤ → Form
form_at types t u z = plain_form (sort_of types t) (sort_of types u) z

-- the constant 0 as one of a type (5.2.3)
abbrev pub zero_form : Sort → Form
zero_form (integral k) = form.Same
zero_form (enumeral e) = form.Enumeration
zero_form void_sort = form.Nothing
zero_form s = if takes_null s then form.Null else form.None

unfoldable pub zero_form_at : Table → ℕ → Form
zero_form_at types t = zero_form (sort_of types t)

abbrev pub IsEnumeral : Sort → Type 0
IsEnumeral (enumeral e) = Unit {0}
IsEnumeral other = ⊥

-- where the number is kept, it is one of the type that the cast goes to
abbrev pub Allows : Table → ℕ → Value → Form → Type 0
Allows types t x form.Enumeration = IsEnumeral (sort_of types t)
Allows types t x form.Same = FitsIn types t x.number
Allows types t x other = Unit {0}
