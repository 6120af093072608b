use Rattle.cf_elab_valid_files.proofs.StaticsLaws.Arrays.{bound-fine}
use Rattle.cf_elab_valid_files.proofs.StaticsLaws.Files.{file-fine}
use Rattle.cf_elab_valid_files.proofs.StaticsLaws.Frames.{function-fine}
use Rattle.cf_elab_valid_files.proofs.StaticsLaws.Linked.{linked-fine}
use Rattle.cf_elab_valid_files.proofs.statics.laws.statics_are_valid.Goals as goal

pub returns : goal.returns
returns c = λ s scene arrays. record {
  linked = λ d e classless h i n. linked-fine s scene d e classless h i n;
  in_file = λ none d parts e initial classless h i n. file-fine s scene arrays none d parts e initial classless h i n;
  in_function = λ parameters is_main at name t parts e given own classless h i n. function-fine s scene arrays parameters is_main at name t parts e given own classless h i n;
  unbounded = λ at u w e classless h. bound-fine s at u w e classless h;
}
