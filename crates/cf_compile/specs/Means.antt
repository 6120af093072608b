-- What a text of the small C keeps of the core that it is written for.
use Rattle.std.specs.Prelude.{◌≡◌, ℕ, true, List}
use Rattle.cc_whole.specs.declared.unit.CUnit.{CUnit}
use Rattle.cc_whole.specs.Text.{Text}
use Rattle.cc_whole.specs.ValidUnit.{valid_unit}
use Rattle.cf_core.specs.FromUnit.{Unit as CoreUnit}
use Rattle.cf_one_file.specs.Means.{TextRunsAsMeant}
use Rattle.cf_translate.specs.Translated.{Translates}

-- The unit is what the core's plain statements are lowered to; it is valid, and the text is its text. The text, read again and linked, runs as the core means, which has
-- a meaning, for each input of bytes, heap limit, depth limit and bound of ticks.
pub record KeepsMeaning (core : CoreUnit) (unit : CUnit) (text : List ℕ) : Type 0 where
  pub translated : Translates core unit text
  pub valid : valid_unit unit ≡ true
  pub spelled : Text text unit
  pub meant : TextRunsAsMeant core text
