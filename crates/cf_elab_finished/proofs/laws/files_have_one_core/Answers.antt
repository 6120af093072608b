use Rattle.cf_elab_finished.proofs.Ends.{one_core, core_of_first}
use Rattle.cf_elab_finished.proofs.laws.files_have_one_core.Goals as goal

pub returns-clause-one : goal.returns-clause-one
returns-clause-one c = one_core

pub returns-clause-first : goal.returns-clause-first
returns-clause-first c = core_of_first
