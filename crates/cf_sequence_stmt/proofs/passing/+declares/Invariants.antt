use Rattle.std.proofs.Common.{◌≡◌, map, drop}
use Rattle.cf_sequence_stmt.specs.Steps.{step, all_open}
use Rattle.cf_sequence_stmt.proofs.passing.+declares.Given as goal

abbrev pub invariant-all_declare-loop-s : goal.invariant-all_declare-loop-s
invariant-all_declare-loop-s l =
    all_open (map (step l.unit.types) (drop l.s-index l.initial.all)) l.locals ≡ all_open (map (step l.unit.types) l.initial.all) l.initial.locals
