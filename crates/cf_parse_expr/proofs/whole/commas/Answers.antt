use Rattle.cf_syntax.specs.Reading.{readers}
use Rattle.cf_parse_expr.specs.Whole.{commas_at}
use Rattle.cf_parse_expr.proofs.Taken.{at-depth}
use Rattle.cf_parse_expr.proofs.whole.commas.Goals as goal

pub returns : goal.returns
unfolding commas_at
returns c =
    at-depth (λ n. (readers n).commas c.args.names.now) c.depth-depth.result c.args.c.now c.depth-depth.ensures
    c.inner_commas.result c.inner_commas.new.c c.inner_commas.ensures
