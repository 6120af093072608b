use Rattle.std.proofs.Common.{rules}
use Rattle.cf_elab_shape.proofs.ShapesLaws.BoundLaws.{bounds_holding}
use Rattle.cf_elab_shape.proofs.shapes.bounds.+check_bounds.Goals as goal

pub returns-in_ok-check_bound-in-Holding : goal.returns-in_ok-check_bound-in-Holding
returns-in_ok-check_bound-in-Holding t c =
    rw (bounds_holding c.args.shape.now c.in-Holding.inside c.args.env.now c.in-Holding.at c.in-Holding.bound c.in-Holding.is) (search rules)

pub returns-in_err-check_bounds-in-Holding : goal.returns-in_err-check_bounds-in-Holding
returns-in_err-check_bounds-in-Holding t c =
    rw (bounds_holding c.args.shape.now c.in-Holding.inside c.args.env.now c.in-Holding.at c.in-Holding.bound c.in-Holding.is) (search rules)

pub returns-in_err-check_bound-in-Holding : goal.returns-in_err-check_bound-in-Holding
returns-in_err-check_bound-in-Holding t c =
    rw (bounds_holding c.args.shape.now c.in-Holding.inside c.args.env.now c.in-Holding.at c.in-Holding.bound c.in-Holding.is) (search rules)
