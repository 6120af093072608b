use Rattle.std.proofs.Common.{◌≡◌, true, map, drop}
use Rattle.cf_core.specs.FromTypes.{type_of}
use Rattle.cf_core.specs.FromUnit.{tables_of}
use Rattle.cf_core.specs.Numbers.{are_known, all_of}
use Rattle.cf_sequence_built.specs.Unbuilt.{test, each_element}
use Rattle.cf_sequence_built.proofs.statements.+initials.Given as goal

abbrev pub invariant-each_element-loop-e : goal.invariant-each_element-loop-e
invariant-each_element-loop-e l = record {
  known : all_of (tables_of l.unit) (map (are_known (tables_of l.unit)) (drop l.e-index l.initial.all)) ≡ true;
  found : each_element (type_of (tables_of l.unit) l.ty) (map (test (tables_of l.unit)) (drop l.e-index l.initial.all)) ≡ each_element (type_of (tables_of l.unit) l.ty) (map (test (tables_of l.unit)) l.initial.all);
}
