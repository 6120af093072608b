use Rattle.cf_elab.specs.Answer.{Answer, Made, Refused, Passed}
use Rattle.cf_elab.specs.Env.{Env}
use Rattle.cf_elab.specs.Shape.{Shape}
use Rattle.cf_elab_valid_objects.specs.Quiet.{QuietIn}
use Rattle.cf_elab_valid_objects.proofs.Expressions.{expression-whole, declarator-shape}
use Rattle.cf_elab_valid_objects.proofs.Shapes.{QuietShape}
use Rattle.cf_elab_valid_objects.proofs.laws.expressions_are_quiet.Goals as goal

quiet_only : (e : Env) (r : Answer Shape) → QuietShape e r → QuietIn e r
quiet_only e (Made x f) q = q.0
quiet_only e (Refused rule at) q = tt
quiet_only e (Passed bound most) q = tt

pub returns : goal.returns
returns c = record { expression = λ x b. (expression-whole x b).part; declarator = λ d b e classless. quiet_only e _ ((declarator-shape d b).fine e classless) }
