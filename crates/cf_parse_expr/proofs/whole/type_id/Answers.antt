use Rattle.cf_syntax.specs.Reading.{readers}
use Rattle.cf_parse_expr.specs.Whole.{type_id_at}
use Rattle.cf_parse_expr.proofs.Taken.{at-depth}
use Rattle.cf_parse_expr.proofs.whole.type_id.Goals as goal

pub returns : goal.returns
unfolding type_id_at
returns c =
    at-depth (λ n. (readers n).type_id c.args.names.now) c.depth-depth.result c.args.c.now c.depth-depth.ensures
    c.inner_type_id.result c.inner_type_id.new.c c.inner_type_id.ensures
