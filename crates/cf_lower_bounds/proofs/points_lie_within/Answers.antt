use Rattle.cf_lower_bounds.proofs.Standing.{lies-within, lies-within-by}
use Rattle.cf_lower_bounds.proofs.points_lie_within.Goals as goal

pub returns : goal.returns
returns c = record {
  within = λ z p q tells. lies-within z p q tells;
  by_number = λ z r n p q tells d g s t e at. lies-within-by z r n p q tells d g s t e at;
}
