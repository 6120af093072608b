use Rattle.cf_syntax.specs.Reading.{readers}
use Rattle.cf_parse_expr.specs.Whole.{params_at}
use Rattle.cf_parse_expr.proofs.Taken.{at-depth}
use Rattle.cf_parse_expr.proofs.whole.params.Goals as goal

pub returns : goal.returns
unfolding params_at
returns c =
    at-depth (λ n. (readers n).params c.args.names.now) c.depth-depth.result c.args.c.now c.depth-depth.ensures
    c.inner_params.result c.inner_params.new.c c.inner_params.ensures
