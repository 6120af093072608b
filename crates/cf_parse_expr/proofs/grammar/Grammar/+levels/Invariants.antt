use Rattle.std.proofs.Common.{◌≡◌, ◌+◌, ◌-◌, ◌*◌, length}
use Rattle.cf_syntax.specs.Parse.{loop}
use Rattle.cf_syntax.specs.Reading.{readers}
use Rattle.cf_parse_expr.specs.Binaries.{binary_turn, joined_from}
use Rattle.cf_parse_expr.proofs.grammar.Grammar.+levels.Given as goal

abbrev pub decreases-joined_from : goal.decreases-joined_from
decreases-joined_from g l = 4 * l.level

abbrev pub decreases-right_side : goal.decreases-right_side
decreases-right_side g l = 4 * l.level + 1

abbrev pub decreases-more_binary : goal.decreases-more_binary
decreases-more_binary g l = 4 * l.level + 2

abbrev pub decreases-joined_next : goal.decreases-joined_next
decreases-joined_next g l = 4 * l.level + 3

abbrev pub invariant-more_binary-loop-turn : goal.invariant-more_binary-loop-turn
invariant-more_binary-loop-turn g l =
    loop (binary_turn (readers l.self.depth) l.names l.level (joined_from (readers l.self.depth) l.names l.level)) (l._turn-end - l._turn) l.a l.c
    ≡ loop (binary_turn (readers l.self.depth) l.names l.level (joined_from (readers l.self.depth) l.names l.level)) (length l.fn.c) l.fn.first l.fn.c
