use Rattle.cf_sequence_written.proofs.KnownFiles.{file-known}
use Rattle.cf_sequence_written.proofs.written_numbers_are_known.Goals as goal

pub returns : goal.returns
returns c = file-known
