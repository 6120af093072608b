use Rattle.std.proofs.Common.{[], subst}
use Rattle.cc_whole.specs.Plain.{items_of}
use Rattle.cc_whole_valid.specs.CheckingItems.{items_from}
use Rattle.cc_whole_valid.specs.Walk.{Fails}
use Rattle.cc_whole_valid.proofs.CheckingItemsLaws.{no_fault, a_fault}
use Rattle.cc_whole_valid.proofs.unit.first_fault.Goals as goal

pub returns-in-Ok : goal.returns-in-Ok
returns-in-Ok c = no_fault (items_of c.args.items.now) _ c.items_from.new.at c.in-Ok.ensures

pub returns-in-Err-Broken : goal.returns-in-Err-Broken
returns-in-Err-Broken c =
    a_fault (items_of c.args.items.now) c.in-Err-Broken.rule c.in-Err-Broken.place
    (subst (Fails (items_from (items_of c.args.items.now) [] [] 0)) c.in-Err-Broken.field-0-is c.in-Err-Broken.ensures)
