use Rattle.cf_lowerable_types.specs.Kinds.{has_kind}
use Rattle.cf_lowerable_places.proofs.ActionKinds.{place_read}
use Rattle.cf_lowerable_places.proofs.setting.read_kinds.Goals as goal

pub returns-in-Place : goal.returns-in-Place
returns-in-Place c =
    place_read c.args.tables.now c.args.place.now c.in-Place.ty c.place_scalar.result (has_kind c.kinds_of_scalar.result) c.in-Place.is
    (c.kinds_of_scalar.ensures c.args.tables.now) c.place_scalar.ensures
