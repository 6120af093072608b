use Rattle.cf_lower_tested.proofs.Functions.{all-have-needs}
use Rattle.cf_lower_tested.proofs.tested_functions_have_needs.Goals as goal

pub returns : goal.returns
returns c B fitting lowered joined tested = all-have-needs B fitting lowered joined tested
