-- What is to be so of a core for its plain file to be lowered, and which tests of that file no law shows yet.
use Rattle.std.specs.Prelude.{◌≡◌, true}
use Rattle.cf_core.specs.Core.{CoreFile}
use Rattle.cf_plain.specs.Plain.{PlainFile}
use Rattle.cf_lower_kept.specs.Opened.{functions_open}
use Rattle.cf_lower_place.specs.Named.{functions_in_place}
use Rattle.cf_lower_program.specs.Alike.{starts_alike}
use Rattle.cf_lower_program.specs.Names.{names_used}
use Rattle.cf_sequence_lowered.specs.Counts.{all_small, none_shared_and_local}
use Rattle.cf_sequence_lowered.specs.Known.{core_statics_known}
use Rattle.cf_sequence_lowered.specs.Labels.{all_labels_agree}
use Rattle.cf_sequence_lowered.specs.Literals.{core_literals_differ}
use Rattle.cf_sequence_lowered.specs.Names.{core_names_fit}
use Rattle.cf_sequence_lowered.specs.Operators.{operands_are_promoted}
use Rattle.cf_sequence_lowered.specs.Ready.{core_is_ready}
use Rattle.cf_sequence_lowered.specs.Texts.{literals_fit}
use Rattle.cf_sequence_lowered.specs.Types.{core_types_fit}

pub record CoreLowers (file : CoreFile) : Type 0 where
  pub types : core_types_fit file ≡ true
  pub operators : operands_are_promoted file ≡ true
  pub names : core_names_fit file ≡ true
  pub statics : core_statics_known file ≡ true
  pub texts : literals_fit file ≡ true
  pub literals : core_literals_differ file ≡ true
  pub labels : all_labels_agree file ≡ true
  pub counts : all_small file ≡ true
  pub shared : none_shared_and_local file ≡ true
  pub ready : core_is_ready file ≡ true

-- what is still to be shown of what sequencing makes
pub record Left (file : PlainFile) : Type 0 where
  pub used : names_used file ≡ true
  pub starts : starts_alike file ≡ true
  pub opened : functions_open file ≡ true
  pub places : functions_in_place file ≡ true
