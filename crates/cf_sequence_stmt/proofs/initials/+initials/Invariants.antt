use Rattle.std.proofs.Common.{◌≡◌, ◌-◌, true, map, drop}
use Rattle.cf_core.specs.FromUnit.{tables_of}
use Rattle.cf_core.specs.Numbers.{are_known, all_of}
use Rattle.cf_sequence_stmt.specs.Steps.{step, elements, left_out}
use Rattle.cf_sequence_stmt.proofs.initials.+initials.Given as goal

abbrev pub invariant-elements-loop-e : goal.invariant-elements-loop-e
invariant-elements-loop-e l = record {
  known : all_of (tables_of l.unit) (map (are_known (tables_of l.unit)) (drop l.e-index l.initial.all)) ≡ true;
  written : elements l.ty l.n l.free l.index (map (step l.unit.types) (drop l.e-index l.initial.all)) l.w ≡ elements l.ty l.n l.free 0 (map (step l.unit.types) l.initial.all) l.initial.w;
}

abbrev pub invariant-left_out-loop : goal.invariant-left_out-loop
invariant-left_out-loop l =
    left_out l.ty l.n l.free l.index (l.count - l.counter) (step l.unit.types l.e) l.w ≡ left_out l.ty l.n l.free l.first l.count (step l.unit.types l.e) l.initial.w
