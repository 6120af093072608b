use Rattle.cf_sequence_lowered.proofs.TypeLaws.{types-lowered}
use Rattle.cf_sequence_lowered.proofs.laws.sequenced_types_are_lowered.Goals as goal

pub returns : goal.returns
returns c = types-lowered
