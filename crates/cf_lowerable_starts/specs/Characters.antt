-- What is a character, by kinds and by the code's forms.
use Rattle.std.specs.Prelude.{Bool, true, false}
use Rattle.cf_base.specs.declared.kind.Kind.{Kind}
use Rattle.cf_base.specs.declared.kind.Kind.TheVariants.{Char, SChar, UChar}
use Rattle.cf_lower_types.specs.declared.form.Form.{Form}
use Rattle.cf_lower_types.specs.declared.form.Form.TheVariants as form

abbrev pub is_character : Kind → Bool
is_character Char = true
is_character SChar = true
is_character UChar = true
is_character k = false

abbrev pub are_characters : Form → Bool
are_characters (form.Integer k) = is_character k
are_characters x = false
