use Rattle.cf_sequence_lowered.proofs.FunctionLaws.{arguments-apart}
use Rattle.cf_sequence_lowered.proofs.laws.sequenced_arguments_are_apart.Goals as goal

pub returns : goal.returns
returns c = arguments-apart
