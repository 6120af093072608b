use Rattle.std.proofs.Common.{◌≡◌, ◌-◌}
use Rattle.cc_whole_reading.specs.Parse.{many}
use Rattle.cc_whole_reading.specs.Constants.{keeps}
use Rattle.cc_whole_reading.specs.Parse.{goes_on}
use Rattle.cc_whole_read_items.specs.ReadItems.{one_item}
use Rattle.cc_whole_read_items.proofs.item.items.Given as goal

abbrev pub invariant-loop-turn : goal.invariant-loop-turn
invariant-loop-turn l =
    many goes_on (one_item (keeps l.constants) l.depth) (l._turn-end - l._turn) l.found l.c ≡ many goes_on (one_item (keeps l.constants) l.depth) l._turn-end l.initial.found l.initial.c
