use Rattle.cf_first.proofs.OneAnswer.{one_answer}
use Rattle.cf_first.proofs.laws.files_have_one_answer.Goals as goal

pub returns : goal.returns
returns c = one_answer
