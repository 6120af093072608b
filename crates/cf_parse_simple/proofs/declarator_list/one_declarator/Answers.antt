use Rattle.std.proofs.Common.{subst}
use Rattle.cf_parse_decl.specs.Reads.{Gives}
use Rattle.cf_parse_simple.proofs.Declaring.{one-is}
use Rattle.cf_parse_simple.proofs.declarator_list.one_declarator.Goals as goal

pub returns : goal.returns
returns g c =
    subst (λ o. Gives o c.declarator_read.result c.declarator_read.new.known c.declarator_read.new.c)
    (one-is c.args.grammar.now.depth c.args.home c.args.given.now c.args.known.now c.args.c.now) c.declarator_read.ensures
