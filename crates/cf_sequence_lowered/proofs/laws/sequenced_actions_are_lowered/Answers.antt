use Rattle.cf_sequence_lowered.proofs.PlainLaws.{actions-lowered}
use Rattle.cf_sequence_lowered.proofs.laws.sequenced_actions_are_lowered.Goals as goal

pub returns : goal.returns
returns c = actions-lowered
