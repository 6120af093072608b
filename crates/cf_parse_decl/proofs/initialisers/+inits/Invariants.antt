use Rattle.std.proofs.Common.{◌≡◌, ◌+◌, ◌-◌, ◌*◌, length}
use Rattle.cf_unit.specs.Read.{taking, row}
use Rattle.cf_parse_decl.specs.Initialisers.{init_turn}
use Rattle.cf_parse_decl.proofs.initialisers.+inits.Given as goal

abbrev pub decreases-init : goal.decreases-init
decreases-init l = 5 * l.depth

abbrev pub decreases-listed_init : goal.decreases-listed_init
decreases-listed_init l = 5 * l.depth + 1

abbrev pub decreases-more_inits : goal.decreases-more_inits
decreases-more_inits l = 5 * l.depth + 2

abbrev pub decreases-init_list : goal.decreases-init_list
decreases-init_list l = 5 * l.depth + 3

abbrev pub decreases-initialising : goal.decreases-initialising
decreases-initialising l = 5 * l.depth + 4

abbrev pub invariant-more_inits-loop-turn : goal.invariant-more_inits-loop-turn
invariant-more_inits-loop-turn l =
    row (λ b us. taking (init_turn l.depth l.names b us) us) (l._turn-end - l._turn) l.all l.c
    ≡ row (λ b us. taking (init_turn l.depth l.names b us) us) (length l.fn.c) l.fn.first l.fn.c
