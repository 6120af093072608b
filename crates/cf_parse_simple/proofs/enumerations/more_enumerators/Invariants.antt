use Rattle.std.proofs.Common.{◌≡◌, ◌-◌, length}
use Rattle.cf_parse_simple.specs.Enumerations.{enumerator_turn}
use Rattle.cf_unit.specs.Read.{taking, row}
use Rattle.cf_parse_simple.proofs.enumerations.more_enumerators.Given as goal

abbrev pub invariant-loop-turn : goal.invariant-loop-turn
invariant-loop-turn l =
    row (λ b us. taking (enumerator_turn b us) us) (l._turn-end - l._turn) (l.all, l.known) l.c
    ≡ row (λ b us. taking (enumerator_turn b us) us) (length l.fn.c) (l.fn.first, l.fn.known) l.fn.c
