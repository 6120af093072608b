use Rattle.std.proofs.Common.{subst}
use Rattle.cf_parse_decl.specs.Reads.{Gives}
use Rattle.cf_parse_simple.proofs.Declaring.{initialised-is}
use Rattle.cf_parse_simple.proofs.declarator_list.initialised.Goals as goal

pub returns : goal.returns
returns g c =
    subst (λ o. Gives o c.initialised_read.result c.args.known.now c.initialised_read.new.c)
    (initialised-is c.args.grammar.now.depth (c.args.declared, c.args.known.now) c.args.c.now) c.initialised_read.ensures
