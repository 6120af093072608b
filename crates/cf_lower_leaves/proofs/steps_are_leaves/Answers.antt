use Rattle.cf_lower_leaves.proofs.Leaves.{set-leaf}
use Rattle.cf_lower_leaves.proofs.steps_are_leaves.Goals as goal

pub returns : goal.returns
returns c z around p r a lt by = set-leaf z around p r a lt by
