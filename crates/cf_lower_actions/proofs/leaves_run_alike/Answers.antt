use Rattle.cf_lower_actions.proofs.Leaves.{leaf-alike}
use Rattle.cf_lower_actions.proofs.leaves_run_alike.Goals as goal

pub returns : goal.returns
returns c z fits around p st e = leaf-alike z fits around p st e
