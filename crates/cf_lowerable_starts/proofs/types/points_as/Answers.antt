use Rattle.cf_lower_constants.specs.Knowing.{target_in}
use Rattle.cf_lower_types.specs.Bare.{type_in}
use Rattle.cf_lowerable_starts.proofs.TypeLaws.{points_any, points_same}
use Rattle.cf_lowerable_starts.proofs.types.points_as.Goals as goal

pub returns-then-any : goal.returns-then-any
returns-then-any c =
    let tables = c.args.tables.now in
    points_any (target_in tables c.args.target.now) (type_in tables c.args.to.now) c.in_ok-any.any c.in_ok-any.ensures c.if-any.true

pub returns : goal.returns
returns c =
    let tables = c.args.tables.now in
    points_same (target_in tables c.args.target.now) (type_in tables c.place_type-place.result) (c.place_type-place.ensures tables) (type_in tables c.args.to.now)
    c.in_ok-any.any c.in_ok-same.same c.in_ok-any.ensures c.if-any.false c.in_ok-same.ensures
