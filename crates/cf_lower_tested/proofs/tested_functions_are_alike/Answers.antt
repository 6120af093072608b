use Rattle.cf_lower_tested.proofs.Functions.{tested-alike}
use Rattle.cf_lower_tested.proofs.tested_functions_are_alike.Goals as goal

pub returns : goal.returns
returns c B fitting lowered joined tested n = tested-alike B fitting lowered joined tested n
