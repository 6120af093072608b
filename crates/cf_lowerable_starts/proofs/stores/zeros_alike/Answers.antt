use Rattle.std.proofs.Common.{ap}
use Rattle.cf_lower_constants.specs.Knowing.{known_in}
use Rattle.cf_lowerable_starts.specs.Telling.{knows, parts_in, tells}
use Rattle.cf_lowerable_starts.proofs.StoreLaws.{clear_is}
use Rattle.cf_lowerable_starts.proofs.stores.zeros_alike.Goals as goal

pub returns : goal.returns
returns c =
    let x = c.args.x.now in
    let s = c.args.s.now in
    let tables = x.tables.now in
    clear_is tables c.args.name.now c.in_ok-at.at c.as_slice.result.now (knows x s c.args.place) c.as_slice.ensures (ap (known_in tables) c.in_ok-at.ensures)
    (parts_in c.as_slice-parts.result.now) (tells x s).parts c.in_ok-clear.clear (ap parts_in c.as_slice-parts.ensures.value) c.in_ok-clear.ensures
