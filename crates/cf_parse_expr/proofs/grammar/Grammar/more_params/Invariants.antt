use Rattle.std.proofs.Common.{◌≡◌, ◌-◌, length}
use Rattle.cf_syntax.specs.Parse.{loop}
use Rattle.cf_syntax.specs.Reading.{readers}
use Rattle.cf_parse_expr.specs.Params.{param_turn}
use Rattle.cf_parse_expr.proofs.grammar.Grammar.more_params.Given as goal

abbrev pub invariant-loop-turn : goal.invariant-loop-turn
invariant-loop-turn g l =
    loop (param_turn (readers l.self.depth) l.names) (l._turn-end - l._turn) l.all l.c ≡ loop (param_turn (readers l.self.depth) l.names) (length l.fn.c) l.fn.first l.fn.c
