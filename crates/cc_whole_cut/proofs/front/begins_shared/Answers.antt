use Rattle.cc_whole_cut.proofs.Found.{shared_within}
use Rattle.cc_whole_cut.proofs.front.begins_shared.Goals as goal

pub returns-clause-within : goal.returns-clause-within
returns-clause-within c = shared_within c.args.text.now c.is_shared.result c.is_shared.ensures
