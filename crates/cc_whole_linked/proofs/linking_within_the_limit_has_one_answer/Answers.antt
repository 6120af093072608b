use Rattle.cc_whole_linked.proofs.Once.{limited-once}
use Rattle.cc_whole_linked.proofs.linking_within_the_limit_has_one_answer.Goals as goal

pub returns : goal.returns
returns c = limited-once
