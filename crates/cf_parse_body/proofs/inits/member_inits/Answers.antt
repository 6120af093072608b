use Rattle.std.proofs.Common.{subst}
use Rattle.cf_parse_expr.specs.Reads.{Reads}
use Rattle.cf_parse_body.proofs.InitsRead.{member-inits-is}
use Rattle.cf_parse_body.proofs.inits.member_inits.Goals as goal

pub returns : goal.returns
returns c =
    subst (λ o. Reads o c.inits_read.result c.inits_read.new.c)
    (member-inits-is c.args.names.now c.args.c.now) c.inits_read.ensures
