use Rattle.std.proofs.Common.{◌≡◌, ◌++◌, drop}
use Rattle.cc_whole.specs.Plain.{items_of}
use Rattle.cf_lower_unit.specs.Pieces.{start_texts_of}
use Rattle.cf_lower_unit.proofs.literals.start_literals.Given as goal

abbrev pub invariant-loop-x : goal.invariant-loop-x
invariant-loop-x l = items_of l.made ++ start_texts_of l.tables (drop l.x-index l.all) ≡ items_of l.initial.made ++ start_texts_of l.tables l.all
