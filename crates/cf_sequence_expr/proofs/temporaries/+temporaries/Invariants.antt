use Rattle.std.proofs.Common.{◌≡◌, true, map, drop}
use Rattle.cf_core.specs.FromUnit.{tables_of}
use Rattle.cf_core.specs.Numbers.{are_known, all_of}
use Rattle.cf_sequence_expr.specs.Pieces.{piece, find_all}
use Rattle.cf_sequence_expr.proofs.temporaries.+temporaries.Given as goal

abbrev pub invariant-find_each-loop-e : goal.invariant-find_each-loop-e
invariant-find_each-loop-e l = record {
  known : all_of (tables_of l.unit) (map (are_known (tables_of l.unit)) (drop l.e-index l.initial.all)) ≡ true;
  found : find_all (map (piece l.unit.types) (drop l.e-index l.initial.all)) l.in_branch l.found ≡ find_all (map (piece l.unit.types) l.initial.all) l.in_branch l.initial.found;
}
