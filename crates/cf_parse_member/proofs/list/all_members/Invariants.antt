use Rattle.std.proofs.Common.{◌≡◌, ◌-◌, [], length}
use Rattle.cf_syntax.specs.Grammar.{sees}
use Rattle.cf_unit.specs.Pieces.{right_brace}
use Rattle.cf_unit.specs.Read.{element, row}
use Rattle.cf_parse_member.specs.Classes.{next_member}
use Rattle.cf_parse_member.proofs.list.all_members.Given as goal

abbrev pub invariant-loop-turn : goal.invariant-loop-turn
invariant-loop-turn g l =
    row (λ s. element (sees right_brace) (next_member l.grammar.depth s)) (l._turn-end - l._turn) (l.all, l.known) l.c
    ≡ row (λ s. element (sees right_brace) (next_member l.grammar.depth s)) (length l.fn.c) ([], l.fn.known) l.fn.c
