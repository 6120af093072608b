use Rattle.cf_lower_tested.proofs.Named.{named-tested}
use Rattle.cf_lower_tested.proofs.named_functions_are_tested.Goals as goal

pub returns : goal.returns
returns c = record {
  one = λ B fitting typed f there. named-tested B fitting typed f there;
  each = λ B fitting typed all f found. named-tested B fitting typed f (all f found);
}
