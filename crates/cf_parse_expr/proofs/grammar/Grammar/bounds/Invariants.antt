use Rattle.std.proofs.Common.{◌≡◌, ◌-◌, length, []}
use Rattle.cf_syntax.specs.Parse.{loop}
use Rattle.cf_syntax.specs.Reading.{readers}
use Rattle.cf_parse_expr.specs.Unaries.{bound_turn}
use Rattle.cf_parse_expr.proofs.grammar.Grammar.bounds.Given as goal

abbrev pub invariant-loop-turn : goal.invariant-loop-turn
invariant-loop-turn g l =
    loop (bound_turn (readers l.self.depth) l.names) (l._turn-end - l._turn) l.all l.c ≡ loop (bound_turn (readers l.self.depth) l.names) (length l.fn.c) [] l.fn.c
