-- The form of a node as the code has it, with types by their numbers, as plain data.
use Rattle.cf_base.specs.declared.kind.Kind.TheVariants.{Char}
use Rattle.cf_core.specs.Types.{SourceType, integer, array}
use Rattle.cf_core.specs.FromTypes.{Tables, type_of}
use Rattle.cf_core_sound.specs.Forms.{Form, other, place, pointer_to}
use Rattle.cf_sound.specs.declared.forms.Told.{Told}
use Rattle.cf_sound.specs.declared.forms.Told.TheVariants as told
use Rattle.cf_sound.specs.declared.forms.Form.{Form as Shown}
use Rattle.cf_sound.specs.declared.forms.Form.TheVariants as shown

abbrev pub told_type : Tables → Told → SourceType
told_type tables (told.Listed t) = type_of tables t
told_type tables (told.Text n) = array (integer Char) n
told_type tables told.Character = integer Char

abbrev pub form_of : Tables → Shown → Form
form_of tables shown.Other = other
form_of tables (shown.Place t) = place (told_type tables t)
form_of tables (shown.Pointer t) = pointer_to (told_type tables t)
