use Rattle.cf_sequence_written.proofs.Units.{file-is}
use Rattle.cf_sequence_written.proofs.written_files_are_sequenced.Goals as goal

pub returns : goal.returns
returns c = file-is
