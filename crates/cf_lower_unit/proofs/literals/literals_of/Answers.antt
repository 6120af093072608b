use Rattle.std.proofs.Common.{refl}
use Rattle.cc_whole.specs.Plain.{items_of}
use Rattle.cf_lower_unit.proofs.Others.{texts_are}
use Rattle.cf_lower_unit.proofs.literals.literals_of.Goals as goal

pub returns : goal.returns
returns c =
    let f = c.args.f.now in
    texts_are c.args.tables.now c.as_slice-owner.result.now f.name f.is_shared f.is_local f.is_local c.in_ok-all.all.items c.as_slice-actions.result.now _
    (items_of c.args.made.now) (items_of c.define_literals.new.made) c.as_slice-owner.ensures refl c.as_slice-actions.ensures.value c.in_ok-all.ensures
    c.in_ok-define_literals.ensures
