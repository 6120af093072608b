use Rattle.cf_lower_calls.proofs.InvokedLaws.Kept.{call-kept-leads}
use Rattle.cf_lower_calls.proofs.invoked.calls_that_are_kept_lead_on.Goals as goal

pub returns : goal.returns
returns c z none simple n alike around h xs f e pair is t r fit valued = call-kept-leads z none simple n alike around h xs f e pair is t r fit valued
