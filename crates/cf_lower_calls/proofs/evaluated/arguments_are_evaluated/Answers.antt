use Rattle.cf_lower_calls.proofs.EvaluatedLaws.Evaluating.{evaluates}
use Rattle.cf_lower_calls.proofs.evaluated.arguments_are_evaluated.Goals as goal

pub returns : goal.returns
returns c K F scope s m rel is os xs = evaluates K F scope s m rel is os xs
