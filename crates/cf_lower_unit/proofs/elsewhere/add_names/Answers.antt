use Rattle.cf_lower_unit.proofs.Names.{names_more}
use Rattle.cf_lower_unit.proofs.elsewhere.add_names.Goals as goal

pub loop-item-preserved : goal.loop-item-preserved
loop-item-preserved c =
    names_more c.loop-item.rest.now c.in-Some.front.now c.in-Some.item.now c.name_of.result.now c.loop-item.names c.add.new.self _ c.in-Some.ensures.cases.0
    c.name_of.ensures c.in_ok-add.ensures c.loop-item.invariant
