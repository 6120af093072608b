use Rattle.std.proofs.Common.{◌≡◌, ◌+◌, ◌-◌, ◌*◌}
use Rattle.cc_whole_tokens.specs.declared.mark.Mark.TheVariants as mark
use Rattle.cc_whole_reading.specs.Parse.{many, sees_not}
use Rattle.cc_whole_reading.specs.Constants.{keeps}
use Rattle.cc_whole_read_body.specs.ReadBody.{switch_item, one_statement}
use Rattle.cc_whole_read_body.proofs.nested.+body.Given as goal

abbrev pub decreases-statement : goal.decreases-statement
decreases-statement l = 16 * l.depth

abbrev pub decreases-inner : goal.decreases-inner
decreases-inner l = 16 * l.depth + 1

abbrev pub decreases-switch_item : goal.decreases-switch_item
decreases-switch_item l = 16 * l.depth + 2

abbrev pub decreases-switch_items : goal.decreases-switch_items
decreases-switch_items l = 16 * l.depth + 3

abbrev pub decreases-cases : goal.decreases-cases
decreases-cases l = 16 * l.depth + 4

abbrev pub decreases-switch : goal.decreases-switch
decreases-switch l = 16 * l.depth + 5

abbrev pub decreases-statements : goal.decreases-statements
decreases-statements l = 16 * l.depth + 1

abbrev pub decreases-body : goal.decreases-body
decreases-body l = 16 * l.depth + 2

abbrev pub decreases-boxed_body : goal.decreases-boxed_body
decreases-boxed_body l = 16 * l.depth + 3

abbrev pub decreases-some_body : goal.decreases-some_body
decreases-some_body l = 16 * l.depth + 4

abbrev pub decreases-block : goal.decreases-block
decreases-block l = 16 * l.depth + 4

abbrev pub decreases-otherwise : goal.decreases-otherwise
decreases-otherwise l = 16 * l.depth + 5

abbrev pub decreases-forever : goal.decreases-forever
decreases-forever l = 16 * l.depth + 4

abbrev pub decreases-branches : goal.decreases-branches
decreases-branches l = 16 * l.depth + 6

abbrev pub decreases-conditional : goal.decreases-conditional
decreases-conditional l = 16 * l.depth + 7

abbrev pub decreases-plain : goal.decreases-plain
decreases-plain l = 16 * l.depth + 5

abbrev pub decreases-leaving : goal.decreases-leaving
decreases-leaving l = 16 * l.depth + 6

abbrev pub decreases-statement_within : goal.decreases-statement_within
decreases-statement_within l = 16 * l.depth + 8

abbrev pub invariant-statements-loop-turn : goal.invariant-statements-loop-turn
invariant-statements-loop-turn l =
    many (sees_not mark.RightBrace) (one_statement (keeps l.constants) l.depth) (l._turn-end - l._turn) l.found l.c
    ≡ many (sees_not mark.RightBrace) (one_statement (keeps l.constants) l.depth) l._turn-end l.initial.found l.initial.c

abbrev pub invariant-switch_items-loop-turn : goal.invariant-switch_items-loop-turn
invariant-switch_items-loop-turn l =
    many (sees_not mark.RightBrace) (switch_item (keeps l.constants) (one_statement (keeps l.constants) l.depth)) (l._turn-end - l._turn) l.found l.c
    ≡ many (sees_not mark.RightBrace) (switch_item (keeps l.constants) (one_statement (keeps l.constants) l.depth)) l._turn-end l.initial.found l.initial.c
