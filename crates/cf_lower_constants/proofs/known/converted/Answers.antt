use Rattle.cf_lower_constants.specs.Knowing.{known_in}
use Rattle.cf_lower_constants.proofs.Conversions.{as_some}
use Rattle.cf_lower_constants.proofs.known.converted.Goals as goal

pub returns-in-Some : goal.returns-in-Some
returns-in-Some c = λ tables cs.
    as_some tables cs (known_in tables c.args.known) (known_in tables c.converted_to.result) c.args.to.now c.in-Some.scalar c.in-Some.is (c.converted_to.ensures tables cs)
