use Rattle.cf_lower_relate.proofs.Memory.{read-place}
use Rattle.cf_lower_relate.proofs.reads_give_what_is_held.Goals as goal

pub returns : goal.returns
returns c = read-place
