use Rattle.std.proofs.Common.{◌≡◌, map, drop}
use Rattle.cf_core.specs.FromUnit.{tables_of}
use Rattle.cf_sequence_built.specs.Unbuilt.{test, any_declares}
use Rattle.cf_sequence_built.proofs.arms.+declares.Given as goal

abbrev pub invariant-any_declares-loop-s : goal.invariant-any_declares-loop-s
invariant-any_declares-loop-s l = any_declares (map (test (tables_of l.unit)) (drop l.s-index l.initial.all)) ≡ any_declares (map (test (tables_of l.unit)) l.initial.all)
