use Rattle.cf_syntax.specs.Reading.{readers}
use Rattle.cf_parse_expr.specs.Whole.{assign_at}
use Rattle.cf_parse_expr.proofs.Taken.{at-depth}
use Rattle.cf_parse_expr.proofs.whole.assign.Goals as goal

pub returns : goal.returns
unfolding assign_at
returns c =
    at-depth (λ n. (readers n).assign c.args.names.now) c.depth-depth.result c.args.c.now c.depth-depth.ensures
    c.inner_assign.result c.inner_assign.new.c c.inner_assign.ensures
