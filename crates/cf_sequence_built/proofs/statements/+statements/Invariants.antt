use Rattle.std.proofs.Common.{◌≡◌, true, map, drop}
use Rattle.cf_core.specs.FromUnit.{tables_of}
use Rattle.cf_core.specs.Numbers.{are_known, all_of}
use Rattle.cf_sequence_built.specs.Unbuilt.{test, each_statement, each_case}
use Rattle.cf_sequence_built.proofs.statements.+statements.Given as goal

abbrev pub invariant-each_statement-loop-s : goal.invariant-each_statement-loop-s
invariant-each_statement-loop-s l = record {
  known : all_of (tables_of l.unit) (map (are_known (tables_of l.unit)) (drop l.s-index l.initial.all)) ≡ true;
  found : each_statement l.behind (map (test (tables_of l.unit)) (drop l.s-index l.initial.all)) ≡ each_statement l.below (map (test (tables_of l.unit)) l.initial.all);
}

abbrev pub invariant-each_case-loop-s : goal.invariant-each_case-loop-s
invariant-each_case-loop-s l = record {
  known : all_of (tables_of l.unit) (map (are_known (tables_of l.unit)) (drop l.s-index l.initial.all)) ≡ true;
  found : each_case l.first (map (test (tables_of l.unit)) (drop l.s-index l.initial.all)) ≡ each_case l.below (map (test (tables_of l.unit)) l.initial.all);
}
