use Rattle.std.proofs.Common.{subst}
use Rattle.cf_parse_decl.specs.Reads.{Gives}
use Rattle.cf_parse_simple.proofs.Enumerating.{enumeration-is}
use Rattle.cf_parse_simple.proofs.enumerations.enumeration.Goals as goal

pub returns : goal.returns
returns c =
    subst (λ o. Gives o c.enumeration_read.result c.enumeration_read.new.known c.enumeration_read.new.c)
    (enumeration-is c.args.known.now c.args.c.now) c.enumeration_read.ensures
