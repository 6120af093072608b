use Rattle.std.proofs.Common.{subst}
use Rattle.cf_lower_types.specs.Ordered.{AreOrdered}
use Rattle.cf_lower_types.proofs.tables.Tables.types.Goals as goal

-- the tables are what the fields hold, and the invariant speaks of these
pub returns-clause-ordered : goal.returns-clause-ordered
returns-clause-ordered c = subst AreOrdered c.self.view_is c.self.invariant
