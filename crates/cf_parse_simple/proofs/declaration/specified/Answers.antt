use Rattle.std.proofs.Common.{subst}
use Rattle.cf_parse_decl.specs.Reads.{Gives}
use Rattle.cf_parse_simple.proofs.Declaring.{specified-is}
use Rattle.cf_parse_simple.proofs.declaration.specified.Goals as goal

pub returns : goal.returns
returns g c =
    subst (λ o. Gives o c.specified_read.result c.specified_read.new.known c.specified_read.new.c)
    (specified-is c.args.grammar.now.depth c.args.known.now c.args.c.now) c.specified_read.ensures
