use Rattle.std.proofs.Common.{◌≡◌, false, map, drop}
use Rattle.cf_core.specs.FromUnit.{tables_of}
use Rattle.cf_sequence_built.specs.Unbuilt.{test, passed}
use Rattle.cf_sequence_built.proofs.arms.passed.Given as goal

abbrev pub invariant-loop-s : goal.invariant-loop-s
invariant-loop-s l = passed l.at l.behind (map (test (tables_of l.unit)) (drop l.s-index l.all)) ≡ passed l.at false (map (test (tables_of l.unit)) l.all)
