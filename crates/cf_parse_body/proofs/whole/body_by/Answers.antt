use Rattle.std.proofs.Common.{subst}
use Rattle.cf_parse_body.specs.Bodies.{GivesBody}
use Rattle.cf_unit.specs.Declares.{shape}
use Rattle.cf_parse_body.proofs.BodiesRead.{body-by-is}
use Rattle.cf_parse_body.proofs.whole.body_by.Goals as goal

pub returns : goal.returns
returns g c =
    subst (λ o. GivesBody o c.body_read_by.result c.body_read_by.new.known c.body_read_by.new.c)
    (body-by-is c.args.grammar.now.depth c.args.known.now.bodies c.args.home (shape c.args.tree.now) c.args.known.now c.args.c.now) c.body_read_by.ensures
