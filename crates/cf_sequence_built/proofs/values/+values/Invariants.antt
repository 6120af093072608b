use Rattle.std.proofs.Common.{◌≡◌, true, map, drop}
use Rattle.cf_core.specs.FromUnit.{tables_of}
use Rattle.cf_core.specs.Numbers.{are_known, all_of}
use Rattle.cf_sequence_built.specs.Unbuilt.{test, each_value}
use Rattle.cf_sequence_built.proofs.values.+values.Given as goal

abbrev pub invariant-each_value-loop-e : goal.invariant-each_value-loop-e
invariant-each_value-loop-e l = record {
  known : all_of (tables_of l.unit) (map (are_known (tables_of l.unit)) (drop l.e-index l.initial.all)) ≡ true;
  found : each_value (map (test (tables_of l.unit)) (drop l.e-index l.initial.all)) ≡ each_value (map (test (tables_of l.unit)) l.initial.all);
}
