use Rattle.cc_whole_read.proofs.ReadBack.{one_unit}
use Rattle.cc_whole_read.proofs.laws.text_has_one_unit.Goals as goal

pub returns : goal.returns
returns c = one_unit
