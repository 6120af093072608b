use Rattle.cc_whole_read_back.proofs.SomeAnswer.{some_answer}
use Rattle.cc_whole_read_back.proofs.answers.text_has_an_answer.Goals as goal

pub returns : goal.returns
returns c = some_answer
