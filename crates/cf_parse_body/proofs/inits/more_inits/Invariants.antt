use Rattle.std.proofs.Common.{◌≡◌, ◌-◌, length}
use Rattle.cf_unit.specs.Read.{taking, row}
use Rattle.cf_parse_body.specs.Inits.{init_turn}
use Rattle.cf_parse_body.proofs.inits.more_inits.Given as goal

abbrev pub invariant-loop-turn : goal.invariant-loop-turn
invariant-loop-turn l =
    row (λ b us. taking (init_turn l.names b us) us) (l._turn-end - l._turn) l.all l.c
    ≡ row (λ b us. taking (init_turn l.names b us) us) (length l.fn.c) l.fn.first l.fn.c
