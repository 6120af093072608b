-- The tests of a plain file that are left where its core passes those of `Tested`.
use Rattle.std.specs.Prelude.{◌≡◌, Bool, true, ◌&&◌}
use Rattle.cf_plain.specs.Plain.{PlainFile}
use Rattle.cf_lower_kept.specs.Opened.{functions_open}
use Rattle.cf_lower_kept.specs.Ready.{functions_ready}
use Rattle.cf_lower_place.specs.Named.{functions_in_place}
use Rattle.cf_lower_program.specs.Alike.{starts_alike}
use Rattle.cf_lower_program.specs.Names.{names_lowered, names_used}
use Rattle.cf_lower_program.specs.Starts.{statics_known}

pub record Remaining (file : PlainFile) : Type 0 where
  pub names : names_lowered file ≡ true
  pub used : names_used file ≡ true
  pub statics : statics_known file ≡ true
  pub starts : starts_alike file ≡ true
  pub ready : functions_ready file ≡ true
  pub opened : functions_open file ≡ true
  pub places : functions_in_place file ≡ true

-- all of them, those first that cost least
abbrev pub plain_passes : PlainFile → Bool
plain_passes file =
    statics_known file
    && (starts_alike file && (functions_ready file && (functions_open file && (functions_in_place file && (names_lowered file && names_used file)))))
