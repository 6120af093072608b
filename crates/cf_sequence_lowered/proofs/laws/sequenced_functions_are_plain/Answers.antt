use Rattle.cf_sequence_lowered.proofs.PlainLaws.{all-plain}
use Rattle.cf_sequence_lowered.proofs.laws.sequenced_functions_are_plain.Goals as goal

pub returns : goal.returns
returns c = all-plain
