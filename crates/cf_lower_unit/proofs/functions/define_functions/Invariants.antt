use Rattle.std.proofs.Common.{◌≡◌, ◌++◌, drop}
use Rattle.cc_whole.specs.Plain.{items_of}
use Rattle.cf_lower_unit.specs.Pieces.{bodies_of}
use Rattle.cf_lower_unit.proofs.functions.define_functions.Given as goal

abbrev pub invariant-loop-f : goal.invariant-loop-f
invariant-loop-f l = items_of l.made ++ bodies_of l.tables (drop l.f-index l.all) ≡ items_of l.initial.made ++ bodies_of l.tables l.all
