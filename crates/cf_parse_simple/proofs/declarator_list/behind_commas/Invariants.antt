use Rattle.std.proofs.Common.{◌≡◌, ◌-◌, length}
use Rattle.cf_parse_simple.specs.Declarators.{declarator_turn}
use Rattle.cf_unit.specs.Read.{taking, row}
use Rattle.cf_parse_simple.proofs.declarator_list.behind_commas.Given as goal

abbrev pub invariant-loop-turn : goal.invariant-loop-turn
invariant-loop-turn l =
    row (λ b us. taking (declarator_turn l.depth l.home l.given b us) us) (l._turn-end - l._turn) (l.all, l.known) l.c
    ≡ row (λ b us. taking (declarator_turn l.depth l.home l.given b us) us) (length l.fn.c) (l.fn.first, l.fn.known) l.fn.c
