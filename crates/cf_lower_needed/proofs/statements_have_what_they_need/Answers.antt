use Rattle.cf_lower_needed.proofs.Live.{function-needed}
use Rattle.cf_lower_needed.proofs.statements_have_what_they_need.Goals as goal

pub returns : goal.returns
returns c z n fits leads ss xs flags ready place comes = function-needed z n fits leads ss xs flags ready place comes
