use Rattle.cf_lower_calls.proofs.ReturnsLaws.Caller.{here-again}
use Rattle.cf_lower_calls.proofs.returns.callers_stand_again.Goals as goal

pub returns : goal.returns
returns c K at p d g s t h os E entry apart result v u flow back k = here-again K at p d g s t h os E entry apart result v u flow back k
