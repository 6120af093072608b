use Rattle.std.proofs.Common.{subst}
use Rattle.cf_parse_decl.specs.Reads.{Gives}
use Rattle.cf_parse_simple.proofs.Declaring.{simple-is}
use Rattle.cf_parse_simple.proofs.declaration.simple.Goals as goal

pub returns : goal.returns
returns g c =
    subst (λ o. Gives o c.simple_read.result c.simple_read.new.known c.simple_read.new.c)
    (simple-is c.args.grammar.now.depth c.args.known.now c.args.c.now) c.simple_read.ensures
