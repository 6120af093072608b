use Rattle.cf_lower_points.proofs.Alike.{leads-on}
use Rattle.cf_lower_points.proofs.leaves_lead_on.Goals as goal

pub returns : goal.returns
returns c z fits around g h xs tells s is may n = leads-on z fits around g h xs tells s is may n
