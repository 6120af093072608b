use Rattle.cf_lower_relate.proofs.Memory.{write-place}
use Rattle.cf_lower_relate.proofs.writes_are_held.Goals as goal

pub returns : goal.returns
returns c = write-place
