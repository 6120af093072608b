use Rattle.cf_lower_constants.proofs.known.as_code.Goals as goal

pub returns : goal.returns
returns c = λ tables cs s. c.pointer_to.ensures.code tables cs s c.args.known.target c.args.known.name
