use Rattle.std.proofs.Common.{subst}
use Rattle.cf_parse_decl.specs.Reads.{Gives}
use Rattle.cf_parse_simple.proofs.Declaring.{more-is}
use Rattle.cf_parse_simple.proofs.declarator_list.more_declarators.Goals as goal

pub returns : goal.returns
returns g c =
    subst (λ o. Gives o c.more_read.result c.more_read.new.known c.more_read.new.c)
    (more-is c.args.grammar.now.depth c.args.home c.args.given.now (c.args.first, c.args.known.now) c.args.c.now) c.more_read.ensures
