use Rattle.cf_lowerable_starts.proofs.BoundLaws.{bound_exactly}
use Rattle.cf_lowerable_starts.proofs.types.target_bound.Goals as goal

pub returns-in-Exactly : goal.returns-in-Exactly
returns-in-Exactly c = bound_exactly c.args.tables.now c.args.target.now c.in-Exactly.id c.bound_of.result c.in-Exactly.is c.bound_of.ensures
