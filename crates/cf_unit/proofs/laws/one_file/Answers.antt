use Rattle.cf_unit.proofs.Whole.{one-file}
use Rattle.cf_unit.proofs.laws.one_file.Goals as goal

pub returns : goal.returns
returns c = one-file
