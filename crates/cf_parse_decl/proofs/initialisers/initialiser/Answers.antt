use Rattle.std.proofs.Common.{subst}
use Rattle.cf_parse_expr.specs.Reads.{Reads}
use Rattle.cf_parse_decl.proofs.Inits.{initialiser-is}
use Rattle.cf_parse_decl.proofs.initialisers.initialiser.Goals as goal

pub returns : goal.returns
returns c =
    subst (λ o. Reads o c.any_initialiser.result c.any_initialiser.new.c)
    (initialiser-is c.args.depth c.args.names.now c.args.c.now) c.any_initialiser.ensures
