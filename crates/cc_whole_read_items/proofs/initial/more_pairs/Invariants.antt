use Rattle.std.proofs.Common.{◌≡◌, ◌-◌}
use Rattle.cc_whole_reading.specs.Parse.{many}
use Rattle.cc_whole_tokens.specs.declared.mark.Mark.TheVariants as mark
use Rattle.cc_whole_reading.specs.Constants.{keeps}
use Rattle.cc_whole_reading.specs.Parse.{past, sees}
use Rattle.cc_whole_read_items.specs.ReadItems.{pair}
use Rattle.cc_whole_read_items.proofs.initial.more_pairs.Given as goal

abbrev pub invariant-loop-turn : goal.invariant-loop-turn
invariant-loop-turn l =
    many (sees mark.Comma) (past (pair (keeps l.constants))) (l._turn-end - l._turn) l.found l.c ≡ many (sees mark.Comma) (past (pair (keeps l.constants))) l._turn-end l.initial.found l.initial.c
