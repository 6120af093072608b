use Rattle.cc_whole.specs.Plain.{items_of}
use Rattle.cf_lower_unit.proofs.Joined.{front_is}
use Rattle.cf_lower_unit.proofs.unit.front.Goals as goal

pub returns : goal.returns
returns c =
    front_is c.args.tables.now c.args.functions.now c.args.statics.now (items_of c.in_ok-heads.heads) (items_of c.in_ok-variables.variables)
    (items_of c.in_ok-others.others) (items_of c.in_ok-declared.declared) (items_of c.in_ok-made.made) c.in_ok-heads.ensures c.in_ok-variables.ensures
    c.in_ok-others.ensures c.in_ok-declared.ensures c.in_ok-made.ensures
