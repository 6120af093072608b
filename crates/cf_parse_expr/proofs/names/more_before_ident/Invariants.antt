use Rattle.std.proofs.Common.{◌≡◌, ◌-◌, length}
use Rattle.cf_syntax.specs.Named.{before_ident}
use Rattle.cf_syntax.specs.Parse.{loop}
use Rattle.cf_parse_expr.proofs.names.more_before_ident.Given as goal

abbrev pub invariant-loop-turn : goal.invariant-loop-turn
invariant-loop-turn l = loop (before_ident l.names) (l._turn-end - l._turn) l.q l.c ≡ loop (before_ident l.names) (length l.fn.c) l.fn.q l.fn.c
