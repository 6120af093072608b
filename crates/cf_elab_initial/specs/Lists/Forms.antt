-- What an object of a type is to its initialiser.
use Rattle.std.specs.Prelude.{ℕ, ◌<◌, Bool, true, false}
use Rattle.cf_types.specs.declared.ty.Ty.{Ty}
use Rattle.cf_types.specs.declared.ty.Ty.TheVariants as ty
use Rattle.cf_types.specs.Table.{Table}
use Rattle.cf_convert.specs.Constness.{type_at}
use Rattle.cf_elab.specs.Lists.{Planner, is_char, is_char_kind, planner, scalar_planner, array_planner}
use Rattle.cf_elab_env.specs.Holds.{IsType}
use Rattle.cf_elab_initial.specs.declared.lists.form.Form.{Form}
use Rattle.cf_elab_initial.specs.declared.lists.form.Form.TheVariants.{Scalar, Array}

-- by the type itself
abbrev pub form_by : Table → ℕ → Ty → Form
form_by types t (ty.Array u n) = Array (record { is_char = is_char types u; count = n; element = u })
form_by types t (ty.Const u) = Scalar u
form_by types t other = Scalar t

abbrev pub form_of : Table → ℕ → Form
form_of types t = form_by types t (type_at types t)

-- the types that it names are in the table, and elements before the array
abbrev pub FormKnown : Table → ℕ → Form → Type 0
FormKnown types t (Scalar u) = IsType types u
FormKnown types t (Array r) = r.element < t

abbrev pub planner_of : Table → Form → Planner
planner_of types (Scalar u) = scalar_planner u
planner_of types (Array r) = array_planner r.is_char r.count (planner types r.element)

abbrev pub is_char_type : Ty → Bool
is_char_type (ty.Int k) = is_char_kind k
is_char_type other = false
