use Rattle.cf_lower_calls.proofs.LibraryLaws.Pointed.{pointer-leads}
use Rattle.cf_lower_calls.proofs.library.calls_through_pointers_lead_on.Goals as goal

pub returns : goal.returns
returns c z none simple fits n alike around h xs q t is r there valued = pointer-leads z none simple fits n alike around h xs q t is r there valued
