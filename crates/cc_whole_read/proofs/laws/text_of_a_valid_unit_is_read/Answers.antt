use Rattle.cc_whole_read.proofs.ReadBack.{read_back}
use Rattle.cc_whole_read.proofs.laws.text_of_a_valid_unit_is_read.Goals as goal

pub returns : goal.returns
returns c = λ text unit is answer. read_back text unit is answer
