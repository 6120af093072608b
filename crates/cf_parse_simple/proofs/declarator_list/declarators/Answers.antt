use Rattle.std.proofs.Common.{subst}
use Rattle.cf_parse_decl.specs.Reads.{Gives}
use Rattle.cf_parse_simple.proofs.Declaring.{declarators-is}
use Rattle.cf_parse_simple.proofs.declarator_list.declarators.Goals as goal

pub returns : goal.returns
returns g c =
    subst (λ o. Gives o c.declarators_read.result c.declarators_read.new.known c.declarators_read.new.c)
    (declarators-is c.args.grammar.now.depth c.args.home c.args.given.now c.args.known.now c.args.c.now) c.declarators_read.ensures
