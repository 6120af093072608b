use Rattle.std.proofs.Common.{subst}
use Rattle.cf_parse_expr.specs.Leaves.{a_pointer}
use Rattle.cf_parse_expr.specs.Reads.{Reads}
use Rattle.cf_parse_expr.proofs.Leaves.{pointer-is}
use Rattle.cf_parse_expr.proofs.names.one_pointer.Goals as goal

pub returns : goal.returns
unfolding a_pointer
returns c = subst (λ r. Reads r c.pointer_read.result c.pointer_read.new.c) (pointer-is c.args.names.now c.args.c.now) c.pointer_read.ensures
