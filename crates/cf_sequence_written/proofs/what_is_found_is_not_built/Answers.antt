use Rattle.cf_sequence_written.proofs.TestedFiles.{file-tested}
use Rattle.cf_sequence_written.proofs.what_is_found_is_not_built.Goals as goal

pub returns : goal.returns
returns c = file-tested
