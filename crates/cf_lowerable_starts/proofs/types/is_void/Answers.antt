use Rattle.cf_lower_constants.specs.Knowing.{target_in}
use Rattle.cf_lower_types.specs.Bare.{type_in}
use Rattle.cf_lowerable_starts.proofs.TypeLaws.{void_is}
use Rattle.cf_lowerable_starts.proofs.types.is_void.Goals as goal

pub returns : goal.returns
returns c =
    let tables = c.args.tables.now in
    void_is (target_in tables c.args.target.now) (type_in tables c.place_type-place.result) (c.place_type-place.ensures tables) c.in_ok-same.same c.in_ok-same.ensures
