use Rattle.std.proofs.Common.{subst}
use Rattle.cf_parse_decl.specs.Reads.{Gives}
use Rattle.cf_parse_member.proofs.MembersRead.{defined-is}
use Rattle.cf_parse_member.proofs.function.defined.Goals as goal

pub returns : goal.returns
returns g c =
    subst (λ o. Gives o c.defined_read.result c.defined_read.new.known c.defined_read.new.c)
    (defined-is c.args.grammar.now.depth c.args.home c.args.at c.args.given c.args.declared c.args.known.now c.args.c.now) c.defined_read.ensures
