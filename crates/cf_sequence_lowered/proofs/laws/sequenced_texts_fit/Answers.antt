use Rattle.cf_sequence_lowered.proofs.PlainLaws.{texts-fit}
use Rattle.cf_sequence_lowered.proofs.laws.sequenced_texts_fit.Goals as goal

pub returns : goal.returns
returns c = texts-fit
