use Rattle.cf_sequence_lowered.proofs.NameLaws.{names-lowered}
use Rattle.cf_sequence_lowered.proofs.laws.sequenced_names_are_lowered.Goals as goal

pub returns : goal.returns
returns c = names-lowered
