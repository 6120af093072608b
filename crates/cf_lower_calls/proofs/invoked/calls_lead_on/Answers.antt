use Rattle.cf_lower_calls.proofs.InvokedLaws.Dropped.{call-leads}
use Rattle.cf_lower_calls.proofs.invoked.calls_lead_on.Goals as goal

pub returns : goal.returns
returns c z none simple n alike around h xs f e pair is t needs valued = call-leads z none simple n alike around h xs f e pair is t needs valued
