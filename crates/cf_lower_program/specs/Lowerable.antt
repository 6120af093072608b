-- Which plain files the laws on whole programs are about: what sequencing makes of files without classes, free store and static objects that need more than constants.
use Rattle.std.specs.Prelude.{◌≡◌, Bool, true, false, List, [], ◌∷◌}
use Rattle.std.specs.List.{list_all}
use Rattle.cf_core.specs.Core.{Role, plain_function}
use Rattle.cf_plain.specs.Plain.{PlainFunction, PlainFile}
use Rattle.cf_plain.specs.Valid.{valid_file}
use Rattle.cf_plain_kept.specs.Kept.{functions_kept}
use Rattle.cf_lower_kept.specs.Ready.{functions_ready}
use Rattle.cf_lower_kept.specs.Opened.{functions_open}
use Rattle.cf_lower_place.specs.Named.{functions_in_place}
use Rattle.cf_lower_program.specs.Types.{types_lowered}
use Rattle.cf_lower_program.specs.Actions.{actions_lowered}
use Rattle.cf_lower_program.specs.Names.{names_lowered, literals_differ, names_used}
use Rattle.cf_lower_program.specs.Starts.{statics_known, texts_fit}
use Rattle.cf_lower_program.specs.Alike.{starts_alike}
use Rattle.cf_lower_program.specs.Labels.{switches_fit}
use Rattle.cf_lower_program.specs.Counts.{counts_fit, shared_apart}
use Rattle.cf_lower_program.specs.Passed.{arguments_apart}

abbrev pub is_none : {A : Type 0} → List A → Bool
is_none [] = true
is_none (x ∷ xs) = false

abbrev pub is_plain : Role → Bool
is_plain plain_function = true
is_plain role = false

pub record Lowerable (file : PlainFile) : Type 0 where
  pub valid : valid_file file ≡ true
  pub no_classes : is_none file.classes ≡ true
  pub roles : list_all (λ (f : PlainFunction). is_plain f.role) file.functions ≡ true
  pub types : types_lowered file ≡ true
  pub actions : actions_lowered file ≡ true
  pub names : names_lowered file ≡ true
  pub used : names_used file ≡ true
  pub statics : statics_known file ≡ true
  pub starts : starts_alike file ≡ true
  pub texts : texts_fit file ≡ true
  pub literals : literals_differ file ≡ true
  pub labels : switches_fit file ≡ true
  pub counts : counts_fit file ≡ true
  pub shared : shared_apart file ≡ true
  pub arguments : arguments_apart file ≡ true
  pub kept : functions_kept file ≡ true
  pub ready : functions_ready file ≡ true
  pub opened : functions_open file ≡ true
  pub places : functions_in_place file ≡ true
