use Rattle.cf_unit.proofs.Whole.{one-answer, has-answer}
use Rattle.cf_unit.proofs.laws.one_answer.Goals as goal

pub returns : goal.returns
returns c = record { one = one-answer; some = has-answer }
