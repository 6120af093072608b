use Rattle.cf_lower_actions.proofs.Leaves.{gives}
use Rattle.cf_lower_actions.proofs.values_are_given.Goals as goal

pub returns : goal.returns
returns c z fits around p a e = gives z fits around p a e
