use Rattle.std.proofs.Common.{◌≡◌, ◌++◌, drop}
use Rattle.cc_whole.specs.Plain.{items_of}
use Rattle.cf_lower_fn.specs.Walks.{told}
use Rattle.cf_lower_unit.specs.Pieces.{texts}
use Rattle.cf_lower_unit.proofs.literals.define_literals.Given as goal

abbrev pub invariant-loop-action : goal.invariant-loop-action
invariant-loop-action l =
    items_of l.made ++ texts l.owner l.is_shared l.is_local (told l.tables (drop l.action-index l.all))
    ≡ items_of l.initial.made ++ texts l.owner l.is_shared l.is_local (told l.tables l.all)
