use Rattle.std.proofs.Common.{◌≡◌, ◌-◌, length}
use Rattle.cf_syntax.specs.Parse.{loop}
use Rattle.cf_parse_expr.specs.Specified.{specifier_turn}
use Rattle.cf_parse_expr.proofs.specifiers.more_specifiers.Given as goal

abbrev pub invariant-loop-turn : goal.invariant-loop-turn
invariant-loop-turn l = loop (specifier_turn l.names) (l._turn-end - l._turn) l.s l.c ≡ loop (specifier_turn l.names) (length l.fn.c) l.fn.first l.fn.c
