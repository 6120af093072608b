use Rattle.cf_sequence_lowered.proofs.KnownLaws.{statics-known}
use Rattle.cf_sequence_lowered.proofs.laws.sequenced_statics_are_known.Goals as goal

pub returns : goal.returns
returns c = statics-known
