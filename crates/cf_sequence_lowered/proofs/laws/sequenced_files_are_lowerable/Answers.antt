use Rattle.cf_sequence_lowered.proofs.LowerableLaws.{lowerable}
use Rattle.cf_sequence_lowered.proofs.laws.sequenced_files_are_lowerable.Goals as goal

pub returns : goal.returns
returns c = lowerable
