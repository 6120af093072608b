use Rattle.cf_lower_bounds.proofs.Turns.{statements-to}
use Rattle.cf_lower_bounds.proofs.statements_are_lowered_to_a_bound.Goals as goal

pub returns : goal.returns
returns c z n ss around p q needed = statements-to z n ss around p q needed
