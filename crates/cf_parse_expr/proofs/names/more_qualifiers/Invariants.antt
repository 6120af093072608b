use Rattle.std.proofs.Common.{◌≡◌, ◌-◌, length}
use Rattle.cf_syntax.specs.Named.{qualifier}
use Rattle.cf_syntax.specs.Parse.{loop}
use Rattle.cf_parse_expr.proofs.names.more_qualifiers.Given as goal

abbrev pub invariant-loop-turn : goal.invariant-loop-turn
invariant-loop-turn l = loop (qualifier l.names) (l._turn-end - l._turn) l.q l.c ≡ loop (qualifier l.names) (length l.fn.c) l.fn.q l.fn.c
