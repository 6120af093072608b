use Rattle.cf_sequence.proofs.NoVirtual.{name-no-more}
use Rattle.cf_sequence.proofs.sequencing_names_no_more.Goals as goal

pub returns : goal.returns
returns c = name-no-more
