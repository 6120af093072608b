use Rattle.cf_sequence.proofs.Joining.{files-keep}
use Rattle.cf_sequence_written.proofs.Meaning.{units-keep}
use Rattle.cf_sequence_written.proofs.written_files_keep_the_meaning.Goals as goal

pub returns : goal.returns
returns c = λ alloc frames. units-keep alloc frames files-keep
