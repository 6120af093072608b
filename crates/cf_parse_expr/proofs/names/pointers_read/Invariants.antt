use Rattle.std.proofs.Common.{◌≡◌, ◌-◌, length, []}
use Rattle.cf_syntax.specs.Parse.{loop}
use Rattle.cf_parse_expr.specs.Named.{pointer_turn}
use Rattle.cf_parse_expr.proofs.names.pointers_read.Given as goal

abbrev pub invariant-loop-turn : goal.invariant-loop-turn
invariant-loop-turn l = loop (pointer_turn l.names) (l._turn-end - l._turn) l.all l.c ≡ loop (pointer_turn l.names) (length l.fn.c) [] l.fn.c
