use Rattle.cc_whole_linked.proofs.Once.{links-once}
use Rattle.cc_whole_linked.proofs.linking_has_one_answer.Goals as goal

pub returns : goal.returns
returns c = links-once
