use Rattle.std.proofs.lemmas.Option.{slice_get_past}
use Rattle.cf_lowerable_types.specs.Kinds.{has_kind}
use Rattle.cf_lowerable_places.proofs.Holding.{none_at}
use Rattle.cf_lowerable_places.proofs.contents.at.Goals as goal

pub returns-in-None : goal.returns-in-None
returns-in-None c =
    none_at c.args.all.now c.args.index (has_kind c.no_kinds.result) (slice_get_past c.args.all.now c.args.index c.in-None.ensures.lookup.3) c.no_kinds.ensures
