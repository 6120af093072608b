use Rattle.std.proofs.Common.{◌≡◌, ◌-◌, length}
use Rattle.cf_syntax.specs.Parse.{loop}
use Rattle.cf_syntax.specs.Reading.{readers}
use Rattle.cf_parse_expr.specs.Arguments.{assign_turn}
use Rattle.cf_parse_expr.proofs.grammar.Grammar.more_assigns.Given as goal

abbrev pub invariant-loop-turn : goal.invariant-loop-turn
invariant-loop-turn g l =
    loop (assign_turn (readers l.self.depth) l.names) (l._turn-end - l._turn) l.all l.c ≡ loop (assign_turn (readers l.self.depth) l.names) (length l.fn.c) l.fn.first l.fn.c
