use Rattle.cf_lower_calls.proofs.EvaluatedLaws.Entering.{enters}
use Rattle.cf_lower_calls.proofs.evaluated.arguments_enter.Goals as goal

pub returns : goal.returns
returns c K F s m rel os cs d xs = enters K s os cs F m rel d xs
