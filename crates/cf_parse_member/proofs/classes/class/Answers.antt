use Rattle.std.proofs.Common.{subst}
use Rattle.cf_parse_decl.specs.Reads.{Gives}
use Rattle.cf_parse_member.proofs.ClassesRead.{class-is}
use Rattle.cf_parse_member.proofs.classes.class.Goals as goal

pub returns : goal.returns
returns g c =
    subst (λ o. Gives o c.class_read.result c.class_read.new.known c.class_read.new.c)
    (class-is c.args.grammar.now.depth c.args.known.now c.args.c.now) c.class_read.ensures
