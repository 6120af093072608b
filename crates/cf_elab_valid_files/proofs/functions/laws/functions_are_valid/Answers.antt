use Rattle.cf_elab_valid_files.proofs.FunctionsLaws.Definitions.{function-law}
use Rattle.cf_elab_valid_files.proofs.functions.laws.functions_are_valid.Goals as goal

pub returns : goal.returns
returns c = λ apart f b fits s end e o classless h. function-law apart f b fits s end e o classless h
