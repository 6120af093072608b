use Rattle.std.proofs.Common.{subst}
use Rattle.cf_core.specs.FromUnit.{IsValid}
use Rattle.cf_core.proofs.unit.CoreUnit.functions.Goals as goal

-- the unit is what its fields hold, and the invariant speaks of these
pub returns-clause-valid : goal.returns-clause-valid
returns-clause-valid c = subst IsValid c.self.view_is c.self.invariant
