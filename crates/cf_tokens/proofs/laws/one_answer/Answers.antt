use Rattle.cf_tokens.proofs.Unique.{one_answer_each}
use Rattle.cf_tokens.proofs.laws.one_answer.Goals as goal

pub returns : goal.returns
returns c = one_answer_each
