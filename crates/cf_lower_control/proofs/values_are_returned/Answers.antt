use Rattle.cf_lower_control.proofs.Leaving.{give-lowered}
use Rattle.cf_lower_control.proofs.values_are_returned.Goals as goal

pub returns : goal.returns
returns c at h grown helped E grows r u x b result kr lx takes = give-lowered at h grown helped E grows r u x b result kr lx takes
