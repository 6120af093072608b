use Rattle.cf_sequence.proofs.Joining.{files-keep}
use Rattle.cf_sequence.proofs.sequencing_keeps_the_meaning_of_files.Goals as goal

pub returns : goal.returns
returns c = files-keep
