use Rattle.cf_lower_objects.proofs.First.{first-lowered}
use Rattle.cf_lower_objects.proofs.first_values_are_stored.Goals as goal

pub returns : goal.returns
returns c at h = first-lowered at h
