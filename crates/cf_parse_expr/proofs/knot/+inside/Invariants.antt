use Rattle.cf_parse_expr.proofs.knot.+inside.Given as goal

abbrev pub decreases-inside : goal.decreases-inside
decreases-inside l = l.depth
