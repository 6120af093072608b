use Rattle.std.proofs.Common.{subst}
use Rattle.cf_parse_expr.specs.Leaves.{all_pointers}
use Rattle.cf_parse_expr.specs.Reads.{Always}
use Rattle.cf_parse_expr.proofs.Leaves.{pointers-is}
use Rattle.cf_parse_expr.proofs.names.pointers.Goals as goal

pub returns : goal.returns
unfolding all_pointers
returns c = subst (λ r. Always r c.pointers_read.result c.pointers_read.new.c) (pointers-is c.args.names.now c.args.c.now) c.pointers_read.ensures
