use Rattle.cf_sequence.proofs.Joining.{files-keep}
use Rattle.cf_sequence_unit.proofs.Meanings.{units-keep}
use Rattle.cf_sequence_unit.proofs.laws.sequenced_units_keep_the_meaning.Goals as goal

pub returns : goal.returns
returns c = units-keep files-keep
