use Rattle.cf_lowerable_ready.specs.Contents.{place_type}
use Rattle.cf_lowerable_ready.proofs.TakeLaws.{same_types}
use Rattle.cf_lowerable_ready.proofs.takes.same_but_const.Goals as goal

pub returns : goal.returns
returns c =
    let tables = c.args.tables.now in
    same_types (place_type tables c.args.a.now) (place_type tables c.args.b.now) _ _ _ c.in_ok-same.ensures (c.place_of-first.ensures tables) (c.place_of-second.ensures tables)
