-- The forms of the types that literals have.
use Rattle.std.specs.Prelude.{Bool, true, false, ◌==◌}
use Rattle.cf_core.specs.Types.{kind_number}
use Rattle.cf_lower_types.specs.declared.form.Form.{Form}
use Rattle.cf_lower_types.specs.declared.form.Form.TheVariants as form

abbrev pub is_void : Form → Bool
is_void form.Void = true
is_void x = false

-- of the kind `char`, whose number is 0
abbrev pub is_character : Form → Bool
is_character (form.Integer k) = kind_number k == 0
is_character x = false
