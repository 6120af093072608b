use Rattle.std.proofs.Common.{◌≡◌, map, drop}
use Rattle.cf_core.specs.FromUnit.{tables_of}
use Rattle.cf_sequence_built.specs.Unbuilt.{test, each_unfit}
use Rattle.cf_sequence_built.proofs.arms.+unfits.Given as goal

abbrev pub invariant-each_unfit-loop-s : goal.invariant-each_unfit-loop-s
invariant-each_unfit-loop-s l = each_unfit l.count (map (test (tables_of l.unit)) (drop l.s-index l.initial.all)) ≡ each_unfit l.count (map (test (tables_of l.unit)) l.initial.all)
