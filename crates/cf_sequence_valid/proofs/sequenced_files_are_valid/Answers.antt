use Rattle.cf_sequence_valid.proofs.Files.{file-fits}
use Rattle.cf_sequence_valid.proofs.sequenced_files_are_valid.Goals as goal

pub returns : goal.returns
returns c = file-fits
