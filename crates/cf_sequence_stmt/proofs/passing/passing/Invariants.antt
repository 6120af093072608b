use Rattle.std.proofs.Common.{◌≡◌, [], false, map, drop}
use Rattle.cf_sequence_stmt.specs.Steps.{step, passes}
use Rattle.cf_sequence_stmt.specs.Steps as spec
use Rattle.cf_sequence_stmt.proofs.passing.passing.Given as goal

abbrev pub invariant-loop-s : goal.invariant-loop-s
invariant-loop-s l = record {
  written : spec.passing (map (step l.unit.types) (drop l.s-index l.all)) l.locals l.b ≡ spec.passing (map (step l.unit.types) l.all) [] l.initial.b;
  passes : passes l.found (map (step l.unit.types) (drop l.s-index l.all)) l.locals ≡ passes false (map (step l.unit.types) l.all) [];
}
