use Rattle.cf_syntax.specs.Reading.{readers}
use Rattle.cf_parse_expr.specs.Whole.{condition_at}
use Rattle.cf_parse_expr.proofs.Taken.{at-depth}
use Rattle.cf_parse_expr.proofs.whole.condition.Goals as goal

pub returns : goal.returns
unfolding condition_at
returns c =
    at-depth (λ n. (readers n).condition c.args.names.now) c.depth-depth.result c.args.c.now c.depth-depth.ensures
    c.inner_condition.result c.inner_condition.new.c c.inner_condition.ensures
