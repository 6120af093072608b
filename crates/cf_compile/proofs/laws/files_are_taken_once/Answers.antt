use Rattle.cf_compile.proofs.Once.{taken_once}
use Rattle.cf_compile.proofs.laws.files_are_taken_once.Goals as goal

pub returns : goal.returns
returns c = taken_once c.files_have_one_answer.ensures
