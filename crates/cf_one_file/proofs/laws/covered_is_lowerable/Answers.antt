use Rattle.cf_one_file.proofs.Units.{covered-lowerable}
use Rattle.cf_one_file.proofs.laws.covered_is_lowerable.Goals as goal

pub returns : goal.returns
returns c = covered-lowerable c.sequenced_files_are_lowerable.ensures
