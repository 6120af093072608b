use Rattle.cc_whole_closed.proofs.Closing.{closed}
use Rattle.cc_whole_closed.proofs.linked_programs_are_closed.Goals as goal

pub returns : goal.returns
returns c = closed
