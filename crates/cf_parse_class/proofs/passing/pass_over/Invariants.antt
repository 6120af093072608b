use Rattle.std.proofs.Common.{◌≡◌, ◌≤◌, ◌-◌, length}
use Rattle.cf_unit.specs.Bodies.{past_braces}
use Rattle.cf_parse_class.proofs.passing.pass_over.Given as goal

abbrev pub invariant-loop-turn : goal.invariant-loop-turn
invariant-loop-turn l = record {
  left : length l.c ≡ l._turn-end - l._turn;
  few : l.open ≤ l._turn;
  same : past_braces l.open l.c ≡ past_braces 0 l.fn.c;
}
