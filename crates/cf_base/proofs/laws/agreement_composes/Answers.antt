use Rattle.cf_base.proofs.Agreement.{agree-through}
use Rattle.cf_base.proofs.laws.agreement_composes.Goals as goal

pub returns : goal.returns
returns c = agree-through
