use Rattle.std.proofs.Common.{◌≡◌, ◌-◌}
use Rattle.cc_whole_tokens.specs.declared.mark.Mark.TheVariants as mark
use Rattle.cc_whole_reading.specs.Parse.{many, past, sees}
use Rattle.cc_whole_read_expr.specs.ReadExpr.{expression}
use Rattle.cc_whole_reading.specs.Constants.{keeps}
use Rattle.cc_whole_read_expr.proofs.lists.more_arguments.Given as goal

abbrev pub invariant-loop-turn : goal.invariant-loop-turn
invariant-loop-turn l =
    many (sees mark.Comma) (past (expression (keeps l.constants) l.depth)) (l._turn-end - l._turn) l.found l.c
    ≡ many (sees mark.Comma) (past (expression (keeps l.constants) l.depth)) l._turn-end l.initial.found l.initial.c
