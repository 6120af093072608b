-- What stands between the core of a file, its unit of the small C, and the text of that.
use Rattle.std.specs.Prelude.{◌≡◌, ℕ, true, List, Some, Result, Ok, Err}
use Rattle.cc_whole.specs.declared.unit.CUnit.{CUnit}
use Rattle.cc_whole.specs.Text.{Text}
use Rattle.cc_whole.specs.ValidUnit.{valid_unit}
use Rattle.cc_whole_print.specs.Units.{unit_text}
use Rattle.cf_core.specs.FromUnit.{Unit as CoreUnit}
use Rattle.cf_lower_program.specs.Agrees.{IsLowered}
use Rattle.cf_lower_program.specs.Lowerable.{Lowerable}
use Rattle.cf_plain.specs.View as plain
use Rattle.cf_sequence_built.specs.Unbuilt.{in_file}
use Rattle.cf_sequence_unit.specs.Sequences.{Sequences}
use Rattle.cf_sequence_unit.specs.declared.fault.SequenceFault.{SequenceFault}
use Rattle.cf_sequence_unit.specs.declared.fault.SequenceFault.TheVariants as fault
use Rattle.cf_translate.specs.declared.texts.Translated.{Translated}

-- a valid unit, and a text of it
pub record IsTextOf (unit : CUnit) (text : List ℕ) : Type 0 where
  pub valid : valid_unit unit ≡ true
  pub spelled : Text text unit

-- The unit is what the file's plain statements are lowered to, and the text is printed from it. Where the laws of lowering are about the plain file, it is a text of that
-- unit, which is valid.
pub record Translates (core : CoreUnit) (unit : CUnit) (text : List ℕ) : Type 0 where
  pub made : plain.Unit
  pub sequenced : Sequences core made
  pub lowered : IsLowered (plain.file_of made) unit
  pub printed : text ≡ unit_text unit
  pub is_text : Lowerable (plain.file_of made) → IsTextOf unit text

-- a unit and its text, or the place of the first construct that is not built; want of memory may come anywhere
abbrev pub Gives : CoreUnit → Result Translated SequenceFault → Type 0
Gives core (Ok made) = Translates core made.unit made.text.items
Gives core (Err (fault.NotBuilt at)) = in_file core ≡ Some at
Gives core (Err fault.Memory) = Unit {0}
