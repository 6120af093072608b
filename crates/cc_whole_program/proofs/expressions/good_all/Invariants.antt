use Rattle.std.proofs.Common.{◌≡◌, map, drop}
use Rattle.cc_whole.specs.Plain.{expression_of}
use Rattle.cc_whole_program.specs.Uses.{good_all}
use Rattle.cc_whole_program.proofs.expressions.good_all.Given as goal

abbrev pub invariant-loop-e : goal.invariant-loop-e
invariant-loop-e l = good_all (map expression_of (drop l.e-index l.all)) l.defined l.hidden ≡ good_all (map expression_of l.all) l.defined l.hidden
