use Rattle.cf_lowerable.proofs.Units.{unit-lowerable}
use Rattle.cf_lowerable.proofs.laws.tested_units_are_lowerable.Goals as goal

pub returns : goal.returns
returns c = unit-lowerable c.tested_files_are_lowerable.ensures
