use Rattle.cf_lowerable_ready.specs.Contents.{place_type}
use Rattle.cf_lowerable_ready.proofs.TypeLaws.{void_at}
use Rattle.cf_lowerable_ready.proofs.types.is_nothing.Goals as goal

pub returns : goal.returns
returns c =
    let tables = c.args.tables.now in
    void_at (place_type tables c.args.place.now) _ _ c.in_ok-void.ensures (c.place_of-bare.ensures tables)
