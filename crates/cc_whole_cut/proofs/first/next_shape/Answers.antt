use Rattle.cc_whole_cut.proofs.Found.{within_of}
use Rattle.cc_whole_cut.proofs.first.next_shape.Goals as goal

pub returns-clause-within : goal.returns-clause-within
returns-clause-within c = within_of c.args.text.now c.front.result c.front.ensures
