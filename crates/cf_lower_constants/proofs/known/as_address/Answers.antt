use Rattle.cf_lower_constants.proofs.known.as_address.Goals as goal

pub returns : goal.returns
returns c = λ tables cs. c.pointer_to.ensures.address tables cs c.args.target c.args.known.target c.args.known.name
