use Rattle.std.proofs.Common.{subst}
use Rattle.cf_plain.specs.View.{IsValid}
use Rattle.cf_plain.proofs.unit.PlainUnit.functions.Goals as goal

-- the unit is what its fields hold, and the invariant speaks of these
pub returns-clause-valid : goal.returns-clause-valid
returns-clause-valid c = subst IsValid c.self.view_is c.self.invariant
