use Rattle.cf_lower_objects.proofs.Declaring.{declare-lowered}
use Rattle.cf_lower_objects.proofs.locals_begin.Goals as goal

pub returns : goal.returns
returns c at h i t x = declare-lowered at h i t x.there x.type x.laid x.over x.visible
