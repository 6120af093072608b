use Rattle.std.proofs.Common.{◌≡◌, suc, ◌-◌, subst, ◌∙◌, ap, arith}
use Rattle.cf_syntax.specs.Reading.{readers}
use Rattle.cf_parse_expr.specs.Reads.{Reads}
use Rattle.cf_parse_expr.specs.Inner.{inner}
use Rattle.cf_parse_expr.proofs.Knots.{nothing-inside, node-is}
use Rattle.cf_parse_expr.proofs.knot.+inside.Goals as goal

pub returns-then-depth-eq0 : goal.returns-then-depth-eq0
returns-then-depth-eq0 t c =
    let none : c.args.depth ≡ 0 = omega arith in
    ap (λ n. inner (readers n) c.args.wanted c.args.names.now c.args.c.now) none ∙ nothing-inside c.args.wanted c.args.names.now c.args.c.now

pub returns : goal.returns
returns t c =
    let one : suc (c.args.depth - 1) ≡ c.args.depth = omega arith in
    let same = node-is (c.args.depth - 1) c.args.wanted c.args.names.now c.args.c.now
    ∙ ap (λ n. inner (readers n) c.args.wanted c.args.names.now c.args.c.now) one in
    subst (λ o. Reads o c.node.result c.node.new.c) same c.node.ensures
