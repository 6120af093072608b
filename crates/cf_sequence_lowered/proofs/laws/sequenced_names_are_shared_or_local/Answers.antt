use Rattle.cf_sequence_lowered.proofs.PlainLaws.{shared-apart}
use Rattle.cf_sequence_lowered.proofs.laws.sequenced_names_are_shared_or_local.Goals as goal

pub returns : goal.returns
returns c = shared-apart
