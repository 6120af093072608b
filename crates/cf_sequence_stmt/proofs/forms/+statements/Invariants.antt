use Rattle.std.proofs.Common.{◌≡◌, true, map, drop}
use Rattle.cf_core.specs.FromUnit.{tables_of}
use Rattle.cf_core.specs.Numbers.{are_known, all_of}
use Rattle.cf_sequence_stmt.specs.Steps.{step, in_order}
use Rattle.cf_sequence_stmt.proofs.forms.+statements.Given as goal

abbrev pub invariant-statements-loop-s : goal.invariant-statements-loop-s
invariant-statements-loop-s l = record {
  known : all_of (tables_of l.unit) (map (are_known (tables_of l.unit)) (drop l.s-index l.initial.all)) ≡ true;
  written : in_order (map (step l.unit.types) (drop l.s-index l.initial.all)) l.ways l.b ≡ in_order (map (step l.unit.types) l.initial.all) l.ways l.initial.b;
}
