use Rattle.cf_sequence.proofs.Whole.{sequencing-keeps}
use Rattle.cf_sequence.proofs.sequencing_keeps_the_meaning.Goals as goal

pub returns : goal.returns
returns c = sequencing-keeps
