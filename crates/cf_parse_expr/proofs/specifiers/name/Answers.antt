use Rattle.std.proofs.Common.{subst}
use Rattle.cf_parse_expr.specs.Leaves.{a_name}
use Rattle.cf_parse_expr.specs.Reads.{Reads}
use Rattle.cf_parse_expr.proofs.Leaves.{name-is}
use Rattle.cf_parse_expr.proofs.specifiers.name.Goals as goal

pub returns : goal.returns
unfolding a_name
returns c = subst (λ r. Reads r c.name_read.result c.name_read.new.c) (name-is c.args.names.now c.args.c.now) c.name_read.ensures
