use Rattle.cf_lower_valid.proofs.Units.{unit-valid}
use Rattle.cf_lower_valid.proofs.units_are_valid.Goals as goal

pub returns : goal.returns
returns c = unit-valid
