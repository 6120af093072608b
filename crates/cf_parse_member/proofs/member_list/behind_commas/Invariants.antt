use Rattle.std.proofs.Common.{◌≡◌, ◌-◌, length}
use Rattle.cf_parse_member.specs.Members.{declarator_turn}
use Rattle.cf_unit.specs.Read.{taking, row}
use Rattle.cf_parse_member.proofs.member_list.behind_commas.Given as goal

abbrev pub invariant-loop-turn : goal.invariant-loop-turn
invariant-loop-turn g l =
    row (λ b us. taking (declarator_turn l.grammar.depth l.home l.given b us) us) (l._turn-end - l._turn) (l.all, l.known) l.c
    ≡ row (λ b us. taking (declarator_turn l.grammar.depth l.home l.given b us) us) (length l.fn.c) (l.fn.first, l.fn.known) l.fn.c
