use Rattle.cf_lower_tested.proofs.Files.{functions-pass}
use Rattle.cf_lower_tested.proofs.Joined.{files-pass, types-shaped}
use Rattle.cf_lower_tested.proofs.functions_of_files_pass.Goals as goal

pub returns : goal.returns
returns c = record {
  one = λ file low. functions-pass file low;
  joined = λ files all. files-pass files all;
  shaped = λ fs e. types-shaped fs e;
}
