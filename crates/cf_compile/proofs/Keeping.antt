-- A core that passes its tests is as lowering asks, and its text keeps its meaning.
use Rattle.std.proofs.Common.{◌≡◌, ◌∙◌, ◌⊎◌, ℕ, ◌≤◌, ◌<◌, Bool, true, false, List, Result, Ok, Err, IfOk, refl, sym, subst, ap, inl, inr}
use Rattle.cf_base.specs.declared.memory.Memory.{Memory}
use Rattle.cc_whole.specs.declared.unit.CUnit.{CUnit}
use Rattle.cc_whole.specs.Text.{Text}
use Rattle.cc_whole.specs.ValidUnit.{valid_unit}
use Rattle.cc_whole_print.specs.Units.{unit_text}
use Rattle.cc_whole_printed.specs.Written.{written_unit}
use Rattle.cf_core.specs.Core.{CoreFile}
use Rattle.cf_core.specs.FromUnit.{Unit as CoreUnit, IsValid, file_of}
use Rattle.cf_core.specs.Valid.{valid_file}
use Rattle.cf_lower_program.specs.Agrees.{UnitsAreValid}
use Rattle.cf_lower_program.specs.Lowerable.{Lowerable}
use Rattle.cf_one_file.specs.Means.{LowerableFileRunsAsMeant}
use Rattle.cf_plain.specs.View as plain
use Rattle.cf_plain_kept.specs.Kept.{functions_kept}
use Rattle.cf_sequence.specs.Built.{is_built_file}
use Rattle.cf_sequence.specs.Sequenced.{sequenced_file}
use Rattle.cf_sequence_unit.proofs.Units.{built-file}
use Rattle.cf_sequence_unit.specs.Sequences.{Sequences}
use Rattle.cf_translate.specs.Translated.{Translates}
use Rattle.cf_compile.specs.Means.{KeepsMeaning}
use Rattle.cf_compile.specs.Steps.{IsWritten, Finishes, IsMade, Makes}
use Rattle.cf_compile.specs.Takes.{greatest, frame_bound, most_frame}
use Rattle.cf_compile.specs.Tests.{CoreFits, Lowers}
use Rattle.cf_compile.specs.declared.compiled.Compiled.{Compiled}
use Rattle.cf_compile.specs.declared.fault.Fault.{Fault}
use Rattle.cf_compile.specs.declared.fault.Fault.TheVariants as fault

-- the laws that are used

abbrev pub RegistersAreKept : Type 0
RegistersAreKept = (file : CoreFile) → valid_file file ≡ true → is_built_file file ≡ true → functions_kept (sequenced_file file) ≡ true

abbrev pub AreWritten : Type 0
AreWritten = (u : CUnit) → valid_unit u ≡ true → written_unit u ≡ true

abbrev pub AreTexts : Type 0
AreTexts = (u : CUnit) → written_unit u ≡ true → Text (unit_text u) u

-- ---- a core and its plain file

module _ (core : CoreUnit) (made : plain.Unit) (sequenced : Sequences core made) where
  pub frames-are : greatest made.frames ≡ frame_bound core
  frames-are = ap greatest sequenced.sequenced.frames

  pub registers-kept : RegistersAreKept → IsValid core → functions_kept (plain.file_of made) ≡ true
  registers-kept law valid = ap functions_kept sequenced.sequenced.file ∙ law (file_of core) valid.file (built-file core sequenced.built)

  pub lowers : CoreFits core → Lowerable (plain.file_of made) → Lowers core
  lowers fits low = record { fits = fits; lowerable = subst Lowerable sequenced.sequenced.file low }

  pub plain-lowers : Lowers core → Lowerable (plain.file_of made)
  plain-lowers l = subst Lowerable (sym sequenced.sequenced.file) l.lowerable

  -- ---- its text

  module _ (valid : IsValid core) (fits : CoreFits core) (low : Lowerable (plain.file_of made)) (are-valid : UnitsAreValid) (are-written : AreWritten)
      (are-texts : AreTexts) (runs : LowerableFileRunsAsMeant) where
    pub keeps : (frame : ℕ) (c : Compiled) → IsWritten (plain.file_of made) frame c → KeepsMeaning core c.unit c.text.items
    keeps frame c w =
        let text = c.text.items in
        let is-valid : valid_unit c.unit ≡ true = are-valid (plain.file_of made) c.unit low w.lowered in
        let is-text : Text text c.unit = subst (λ t. Text t c.unit) (sym w.printed) (are-texts c.unit (are-written c.unit is-valid)) in
        let t : Translates core c.unit text = record {
          made = made;
          sequenced = sequenced;
          lowered = w.lowered;
          printed = w.printed;
          is_text = λ any. record { valid = is-valid; spelled = is-text };
        } in
        record {
          translated = t;
          valid = is-valid;
          spelled = is-text;
          meant = runs core c.unit text valid t low fits.sound;
        }

    is-made : greatest made.frames ≤ most_frame → (c : Compiled) → IsWritten (plain.file_of made) (greatest made.frames) c → IsMade core c
    is-made within c w = record {
      lowers = lowers fits low;
      keeps = keeps (greatest made.frames) c w;
      frame = w.frame ∙ frames-are;
      within = subst (λ n. n ≤ most_frame) (sym w.frame) within;
    }

  -- ---- what becomes of the plain file becomes of the core

  module _ (valid : IsValid core) (passes : Result Bool Memory) (passed : IfOk passes (λ is. is ≡ true → CoreFits core))
      (passing : CoreFits core → IfOk passes (λ is. is ≡ true)) (are-valid : UnitsAreValid) (are-written : AreWritten) (are-texts : AreTexts)
      (runs : LowerableFileRunsAsMeant) where
    core-fits : passes ≡ Ok true → CoreFits core
    core-fits e = subst (λ (r : Result Bool Memory). IfOk r (λ is. is ≡ true → CoreFits core)) e passed refl

    core-fails : passes ≡ Ok false → CoreFits core → ⊥
    core-fails e fits = let k = subst (λ (r : Result Bool Memory). IfOk r (λ is. is ≡ true)) e (passing fits) in cc

    not-lowers : (passes ≡ Ok false) ⊎ (Lowerable (plain.file_of made) → ⊥) → Lowers core → ⊥
    not-lowers (inl fails) l = core-fails fails l.fits
    not-lowers (inr fails) l = fails (plain-lowers l)

    pub makes : (result : Result Compiled Fault) → Finishes made passes result → Makes core result
    makes (Ok c) f =
        let fits = core-fits f.passed in
        is-made valid fits (f.lowerable core valid sequenced fits.tested) are-valid are-written are-texts runs f.within c f.written
    makes (Err (fault.Broken b)) f = record { broken = f.broken; within = subst (λ n. n ≤ most_frame) frames-are f.within; none = not-lowers f.unfit }
    makes (Err (fault.Limit limit)) f = record { limit = f.limit; past = subst (λ n. most_frame < n) frames-are f.past }
    makes (Err fault.Memory) f = tt
