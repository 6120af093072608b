use Rattle.std.proofs.Common.{subst}
use Rattle.cf_parse_body.specs.Bodies.{ReadsBody}
use Rattle.cf_parse_body.proofs.BodiesRead.{body-is}
use Rattle.cf_parse_body.proofs.whole.body.Goals as goal

pub returns : goal.returns
returns g c =
    subst (λ o. ReadsBody o c.body_read.result c.body_read.new.c)
    (body-is c.args.grammar.now.depth c.args.names c.args.c.now) c.body_read.ensures
