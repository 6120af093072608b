use Rattle.cf_lower_constants.proofs.known.as_number.Goals as goal

pub returns : goal.returns
returns c = λ tables cs. c.number_to.ensures tables cs c.args.known.target c.args.known.name
