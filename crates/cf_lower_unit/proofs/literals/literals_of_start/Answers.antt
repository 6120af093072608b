use Rattle.std.specs.Prelude.{not, ◌||◌}
use Rattle.cc_whole.specs.Plain.{items_of}
use Rattle.cf_lower_unit.specs.Pieces.{owner_or}
use Rattle.cf_lower_unit.proofs.Others.{texts_are}
use Rattle.cf_lower_unit.proofs.literals.literals_of_start.Goals as goal

pub returns : goal.returns
returns c =
    let x = c.args.x.now in
    texts_are c.args.tables.now c.owner_of-owner.result.now (owner_or x.owner) x.is_shared c.keeps_literals-is_local.result (x.is_local || not x.is_shared)
    c.in_ok-all.all.items c.as_slice-actions.result.now _ (items_of c.args.made.now) (items_of c.define_literals.new.made) c.owner_of-owner.ensures
    c.keeps_literals-is_local.ensures c.as_slice-actions.ensures.value c.in_ok-all.ensures c.in_ok-define_literals.ensures
