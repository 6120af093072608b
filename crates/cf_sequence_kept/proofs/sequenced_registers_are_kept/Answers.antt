use Rattle.cf_sequence_kept.proofs.Files.{file-keeps}
use Rattle.cf_sequence_kept.proofs.sequenced_registers_are_kept.Goals as goal

pub returns : goal.returns
returns c = file-keeps
