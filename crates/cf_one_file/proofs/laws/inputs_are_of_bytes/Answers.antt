use Rattle.cf_one_file.proofs.Meanings.{of-bytes}
use Rattle.cf_one_file.proofs.laws.inputs_are_of_bytes.Goals as goal

pub returns : goal.returns
returns c = of-bytes
