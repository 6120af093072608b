use Rattle.cf_sequence_lowered.proofs.PlainLaws.{has-no-classes}
use Rattle.cf_sequence_lowered.proofs.laws.sequenced_files_have_no_classes.Goals as goal

pub returns : goal.returns
returns c = has-no-classes
