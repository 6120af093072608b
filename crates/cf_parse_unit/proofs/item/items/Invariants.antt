use Rattle.std.proofs.Common.{◌≡◌, ◌-◌, [], length}
use Rattle.cf_unit.specs.Files.{at_end}
use Rattle.cf_unit.specs.Read.{element, row}
use Rattle.cf_parse_unit.specs.Files.{next_item}
use Rattle.cf_parse_unit.proofs.item.items.Given as goal

abbrev pub invariant-loop-turn : goal.invariant-loop-turn
invariant-loop-turn g l =
    row (λ s. element at_end (next_item l.grammar.depth s)) (l._turn-end - l._turn) (l.all, l.known) l.c
    ≡ row (λ s. element at_end (next_item l.grammar.depth s)) (length l.fn.c) ([], l.fn.known) l.fn.c
