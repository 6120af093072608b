use Rattle.std.proofs.Common.{◌≡◌, true, map, drop}
use Rattle.cf_core.specs.FromUnit.{tables_of}
use Rattle.cf_core.specs.Numbers.{are_known, all_of}
use Rattle.cf_sequence_expr.specs.Parameters.{part_known}
use Rattle.cf_sequence_expr.specs.Pieces.{piece, part_piece, in_all}
use Rattle.cf_sequence_expr.proofs.locals.+locals.Given as goal

abbrev pub invariant-add_locals_of_all-loop-e : goal.invariant-add_locals_of_all-loop-e
invariant-add_locals_of_all-loop-e l = record {
  known : all_of (tables_of l.unit) (map (are_known (tables_of l.unit)) (drop l.e-index l.initial.all)) ≡ true;
  added : in_all (map (piece l.unit.types) (drop l.e-index l.initial.all)) l.types ≡ in_all (map (piece l.unit.types) l.initial.all) l.initial.types;
}

abbrev pub invariant-add_locals_of_parts-loop-part : goal.invariant-add_locals_of_parts-loop-part
invariant-add_locals_of_parts-loop-part l = record {
  known : all_of (tables_of l.unit) (map (part_known (tables_of l.unit)) (drop l.part-index l.initial.parts)) ≡ true;
  added : in_all (map (part_piece l.unit.types) (drop l.part-index l.initial.parts)) l.types ≡ in_all (map (part_piece l.unit.types) l.initial.parts) l.initial.types;
}
