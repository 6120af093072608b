use Rattle.cf_lower_calls.proofs.EnteredLaws.Fitting.{programs-alike}
use Rattle.cf_lower_calls.proofs.entered.functions_of_programs_are_alike.Goals as goal

pub returns : goal.returns
returns c B fitting lowered needs n = programs-alike B fitting lowered needs n
