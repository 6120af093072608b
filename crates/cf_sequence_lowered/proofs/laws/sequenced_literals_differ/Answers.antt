use Rattle.cf_sequence_lowered.proofs.LiteralLaws.{literals-differ}
use Rattle.cf_sequence_lowered.proofs.laws.sequenced_literals_differ.Goals as goal

pub returns : goal.returns
returns c = literals-differ
