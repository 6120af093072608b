use Rattle.cc_whole_read.proofs.OneAnswer.{one_refusal}
use Rattle.cc_whole_read.proofs.ReadBack.{is_c}
use Rattle.cc_whole_read.proofs.laws.text_stops_at_one_place.Goals as goal

pub returns-clause-one : goal.returns-clause-one
returns-clause-one c = one_refusal

pub returns-clause-none : goal.returns-clause-none
returns-clause-none c = λ text at unit n is. is_c text unit is at n
