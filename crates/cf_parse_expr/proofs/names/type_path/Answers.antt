use Rattle.std.proofs.Common.{subst}
use Rattle.cf_parse_expr.specs.Leaves.{a_type_path}
use Rattle.cf_parse_expr.specs.Reads.{Reads}
use Rattle.cf_parse_expr.proofs.Leaves.{path-is}
use Rattle.cf_parse_expr.proofs.names.type_path.Goals as goal

pub returns : goal.returns
unfolding a_type_path
returns c = subst (λ r. Reads r c.type_path_read.result c.type_path_read.new.c) (path-is c.args.names.now c.args.c.now) c.type_path_read.ensures
