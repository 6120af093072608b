use Rattle.std.proofs.Common.{subst}
use Rattle.cf_parse_expr.specs.Leaves.{some_specifiers}
use Rattle.cf_parse_expr.specs.Reads.{Reads}
use Rattle.cf_parse_expr.proofs.Leaves.{specifiers-is}
use Rattle.cf_parse_expr.proofs.specifiers.specifiers.Goals as goal

pub returns : goal.returns
unfolding some_specifiers
returns c = subst (λ r. Reads r c.specifiers_read.result c.specifiers_read.new.c) (specifiers-is c.args.names.now c.args.c.now) c.specifiers_read.ensures
