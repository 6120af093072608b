use Rattle.cc_whole_read_back.proofs.OneAnswer.{one_answer}
use Rattle.cc_whole_read_back.proofs.answers.text_has_one_answer.Goals as goal

pub returns : goal.returns
returns c = one_answer
