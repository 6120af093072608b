use Rattle.std.proofs.Common.{◌≡◌, true, map, drop}
use Rattle.cf_core.specs.FromUnit.{tables_of}
use Rattle.cf_core.specs.Numbers.{are_known, all_of}
use Rattle.cf_sequence_expr.specs.Pieces.{piece, all_values, arguments}
use Rattle.cf_sequence_expr.proofs.+values.Given as goal

abbrev pub invariant-values::all_values-loop-e : goal.invariant-values::all_values-loop-e
invariant-values::all_values-loop-e l = record {
  known : all_of (tables_of l.unit) (map (are_known (tables_of l.unit)) (drop l.e-index l.initial.all)) ≡ true;
  written : all_values (map (piece l.unit.types) (drop l.e-index l.initial.all)) l.full l.n l.w ≡ all_values (map (piece l.unit.types) l.initial.all) l.full l.n l.initial.w;
}

abbrev pub invariant-values::arguments-loop-e : goal.invariant-values::arguments-loop-e
invariant-values::arguments-loop-e l = record {
  at : l.index ≡ l.e-index;
  known : all_of (tables_of l.unit) (map (are_known (tables_of l.unit)) (drop l.e-index l.initial.all)) ≡ true;
  written : arguments l.types l.index (map (piece l.unit.types) (drop l.e-index l.initial.all)) l.full l.n l.first l.w
      ≡ arguments l.types 0 (map (piece l.unit.types) l.initial.all) l.full l.n l.first l.initial.w;
}
