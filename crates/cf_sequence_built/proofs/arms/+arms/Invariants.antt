use Rattle.std.proofs.Common.{◌≡◌, map, drop}
use Rattle.cf_core.specs.FromUnit.{tables_of}
use Rattle.cf_sequence_built.specs.Unbuilt.{test, any_arms}
use Rattle.cf_sequence_built.proofs.arms.+arms.Given as goal

abbrev pub invariant-any_arms-loop-s : goal.invariant-any_arms-loop-s
invariant-any_arms-loop-s l = any_arms (map (test (tables_of l.unit)) (drop l.s-index l.initial.all)) ≡ any_arms (map (test (tables_of l.unit)) l.initial.all)
