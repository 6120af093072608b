use Rattle.cf_sequence_lowered.proofs.ReadyLaws.{functions-are-ready}
use Rattle.cf_sequence_lowered.proofs.laws.sequenced_functions_are_ready.Goals as goal

pub returns : goal.returns
returns c = functions-are-ready
