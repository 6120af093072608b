-- What the runs of a file's C text do, by what the file's core means.
use Rattle.std.specs.Prelude.{◌≡◌, ℕ, true, List, [], ◌∷◌, Some, Ok}
use Rattle.cf_base.specs.Agree.{Agree}
use Rattle.cf_base.specs.World.{Outcome}
use Rattle.cc_whole.specs.declared.unit.CProgram.{CProgram}
use Rattle.cc_whole.specs.declared.unit.CUnit.{CUnit}
use Rattle.cc_whole_link.specs.Link.{Links}
use Rattle.cc_whole_outcome.specs.CMean.{CMean}
use Rattle.cf_core.specs.FromUnit.{Unit as CoreUnit, IsValid, file_of, units_mean}
use Rattle.cf_file_sound.specs.Files.{has_main, is_sound_file}
use Rattle.cf_lower_place.specs.Input.{IsInput}
use Rattle.cf_lower_program.specs.Agrees.{AgreesWith}
use Rattle.cf_lower_program.specs.Lowerable.{Lowerable}
use Rattle.cf_plain.specs.View as plain
use Rattle.cf_translate.specs.Translated.{Translates}
use Rattle.cf_one_file.specs.Covered.{Covered}

-- ---- agreement

-- Each outcome of the text agrees with the core's. Where the core has none nothing is said.
abbrev pub TextMeans : CoreUnit → List ℕ → Type 0
TextMeans core text =
    (input : List ℕ) → IsInput input → (heap depth n : ℕ) (end : Outcome) → CMean (text ∷ []) input heap depth n end
    → AgreesWith (units_mean (core ∷ []) input heap depth n) end

-- of a text for a valid core whose plain file passes the tests of lowering
abbrev pub LowerableFileMeans : Type 0
LowerableFileMeans =
    (core : CoreUnit) (unit : CUnit) (text : List ℕ) → IsValid core → (translated : Translates core unit text) → Lowerable (plain.file_of translated.made)
    → TextMeans core text

-- of a text for a valid core that is covered
abbrev pub OneFileMeans : Type 0
OneFileMeans = (core : CoreUnit) (unit : CUnit) (text : List ℕ) → IsValid core → Translates core unit text → Covered core → TextMeans core text

-- ---- agreement with a meaning that is there

-- the core has an outcome, and this one agrees with it
pub record IsMeant (core : CoreUnit) (input : List ℕ) (heap depth n : ℕ) (end : Outcome) : Type 0 where
  pub meant : Outcome
  pub means : units_mean (core ∷ []) input heap depth n ≡ Some meant
  pub agrees : Agree meant end

-- each outcome of the text is so
abbrev pub TextRunsAsMeant : CoreUnit → List ℕ → Type 0
TextRunsAsMeant core text =
    (input : List ℕ) → IsInput input → (heap depth n : ℕ) (end : Outcome) → CMean (text ∷ []) input heap depth n end → IsMeant core input heap depth n end

-- The file is sound if it has a `main`. A file without one has no meaning, and its text links to no program.
abbrev pub IsSound : CoreUnit → Type 0
IsSound core = has_main (file_of core) ≡ true → is_sound_file (file_of core) ≡ true

abbrev pub LowerableFileRunsAsMeant : Type 0
LowerableFileRunsAsMeant =
    (core : CoreUnit) (unit : CUnit) (text : List ℕ) → IsValid core → (translated : Translates core unit text) → Lowerable (plain.file_of translated.made)
    → IsSound core → TextRunsAsMeant core text

abbrev pub OneFileRunsAsMeant : Type 0
OneFileRunsAsMeant =
    (core : CoreUnit) (unit : CUnit) (text : List ℕ) → IsValid core → Translates core unit text → Covered core
    → IsSound core → TextRunsAsMeant core text

-- ---- what links has a `main`

-- the unit of a lowered file links by itself to a program only where the file has a `main`
abbrev pub LinkedFilesHaveMain : Type 0
LinkedFilesHaveMain =
    (core : CoreUnit) (unit : CUnit) (text : List ℕ) (program : CProgram) → IsValid core → (translated : Translates core unit text)
    → Lowerable (plain.file_of translated.made) → Links (unit ∷ []) (Ok program) → has_main (file_of core) ≡ true
