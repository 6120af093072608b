use Rattle.cf_syntax.specs.declared.reading.DeclaratorKind.TheVariants as kind
use Rattle.cf_syntax.specs.Reading.{readers}
use Rattle.cf_parse_expr.specs.Whole.{declarator_at}
use Rattle.cf_parse_expr.proofs.Taken.{at-depth}
use Rattle.cf_parse_expr.proofs.whole.declarator.Goals as goal

pub returns : goal.returns
unfolding declarator_at
returns c =
    at-depth (λ n. (readers n).declarator kind.Named c.args.names.now) c.depth-depth.result c.args.c.now c.depth-depth.ensures
    c.inner_declarator.result c.inner_declarator.new.c c.inner_declarator.ensures
