use Rattle.cf_sequence_lowered.proofs.FunctionLaws.{labels-fit}
use Rattle.cf_sequence_lowered.proofs.laws.sequenced_labels_fit.Goals as goal

pub returns : goal.returns
returns c = labels-fit
