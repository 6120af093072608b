use Rattle.std.proofs.Common.{◌≡◌, ◌-◌}
use Rattle.cc_whole_reading.specs.Parse.{many}
use Rattle.cc_whole_tokens.specs.declared.mark.Mark.TheVariants as mark
use Rattle.cc_whole_reading.specs.Parse.{past, sees}
use Rattle.cc_whole_read_items.specs.ReadItems.{parameter}
use Rattle.cc_whole_read_items.proofs.prototypes.more_parameters.Given as goal

abbrev pub invariant-loop-turn : goal.invariant-loop-turn
invariant-loop-turn l =
    many (sees mark.Comma) (past parameter) (l._turn-end - l._turn) l.found l.c ≡ many (sees mark.Comma) (past parameter) l._turn-end l.initial.found l.initial.c
