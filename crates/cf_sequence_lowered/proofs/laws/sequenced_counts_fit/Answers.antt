use Rattle.cf_sequence_lowered.proofs.FunctionLaws.{counts-fit}
use Rattle.cf_sequence_lowered.proofs.laws.sequenced_counts_fit.Goals as goal

pub returns : goal.returns
returns c = counts-fit
