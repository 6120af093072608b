use Rattle.std.proofs.Common.{◌≡◌, ◌-◌}
use Rattle.cf_syntax.specs.Parse.{loop}
use Rattle.cf_syntax.specs.Reading.{readers}
use Rattle.cf_parse_expr.specs.Declarators.{tree_turn}
use Rattle.cf_parse_expr.proofs.grammar.Grammar.tree_turns.Given as goal

abbrev pub invariant-loop-turn : goal.invariant-loop-turn
invariant-loop-turn g l =
    loop (tree_turn (readers l.self.depth) l.names) (l.turns - l._turn) l.d l.c ≡ loop (tree_turn (readers l.self.depth) l.names) (l.fn.turns) l.fn.first l.fn.c
