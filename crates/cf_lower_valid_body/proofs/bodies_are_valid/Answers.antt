use Rattle.cf_lower_valid_body.proofs.Bodies.{body-valid}
use Rattle.cf_lower_valid_body.proofs.bodies_are_valid.Goals as goal

pub returns : goal.returns
returns c = body-valid
