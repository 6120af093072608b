use Rattle.std.proofs.Common.{subst}
use Rattle.cf_parse_decl.specs.Reads.{Gives}
use Rattle.cf_parse_unit.proofs.Read.{linkage-is}
use Rattle.cf_parse_unit.proofs.linkages.linkage.Goals as goal

pub returns : goal.returns
returns g c =
    subst (λ o. Gives o c.linkage_read.result c.linkage_read.new.known c.linkage_read.new.c)
    (linkage-is c.args.grammar.now.depth c.args.known.now c.args.c.now) c.linkage_read.ensures
