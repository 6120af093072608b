use Rattle.std.proofs.Common.{◌≡◌, ◌-◌, length}
use Rattle.cf_syntax.specs.Parse.{loop}
use Rattle.cf_syntax.specs.Reading.{readers}
use Rattle.cf_parse_expr.specs.Operands.{behind_turn}
use Rattle.cf_parse_expr.proofs.grammar.Grammar.more_behind.Given as goal

abbrev pub invariant-loop-turn : goal.invariant-loop-turn
invariant-loop-turn g l =
    loop (behind_turn (readers l.self.depth) l.names) (l._turn-end - l._turn) l.a l.c ≡ loop (behind_turn (readers l.self.depth) l.names) (length l.fn.c) l.fn.first l.fn.c
