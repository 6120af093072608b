use Rattle.cf_parse_simple.proofs.Constructing.{if-constructs}
use Rattle.cf_parse_simple.proofs.constructors.is_constructor.Goals as goal

pub returns : goal.returns
returns c = if-constructs c.args.known.now c.args.c.now c.constructs.result c.constructs.ensures
