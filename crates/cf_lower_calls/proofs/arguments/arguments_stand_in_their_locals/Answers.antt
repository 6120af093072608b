use Rattle.cf_lower_calls.proofs.ArgumentsLaws.Standing.{in-locals, all-differ, all-own}
use Rattle.cf_lower_calls.proofs.arguments.arguments_stand_in_their_locals.Goals as goal

pub returns : goal.returns
returns c = record {
  read = λ K at p d g s t h shaped is os pass there. in-locals K at p d g s t h shaped is os pass there;
  differ = λ K at p d g s t h is os pass there. all-differ K at p d g s t h is os pass there;
  own = λ K at p d g s t h is os pass there. all-own K at p d g s t h is os pass there;
}
