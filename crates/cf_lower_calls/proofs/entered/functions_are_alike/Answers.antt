use Rattle.cf_lower_calls.proofs.EnteredLaws.Alike.{alike-always}
use Rattle.cf_lower_calls.proofs.entered.functions_are_alike.Goals as goal

pub returns : goal.returns
returns c B none simple fits n = alike-always B none simple fits n
