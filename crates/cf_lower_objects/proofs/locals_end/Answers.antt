use Rattle.cf_lower_objects.proofs.Finishing.{finish-lowered}
use Rattle.cf_lower_objects.proofs.locals_end.Goals as goal

pub returns : goal.returns
returns c at h i t some = finish-lowered at h i t some
