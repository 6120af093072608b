use Rattle.cf_lower_relate.proofs.Moves.{moved-pointer}
use Rattle.cf_lower_relate.proofs.pointers_are_moved_by_bytes.Goals as goal

pub returns : goal.returns
returns c = moved-pointer
