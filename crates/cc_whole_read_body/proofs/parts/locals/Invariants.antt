use Rattle.std.proofs.Common.{◌≡◌, ◌-◌}
use Rattle.cc_whole_reading.specs.Parse.{many}
use Rattle.cc_whole_reading.specs.Constants.{keeps}
use Rattle.cc_whole_read_types.specs.ReadTypes.{sees_type}
use Rattle.cc_whole_read_body.specs.ReadBody.{local_line}
use Rattle.cc_whole_read_body.proofs.parts.locals.Given as goal

abbrev pub invariant-loop-turn : goal.invariant-loop-turn
invariant-loop-turn l =
    many sees_type (local_line (keeps l.constants)) (l._turn-end - l._turn) l.found l.c ≡ many sees_type (local_line (keeps l.constants)) l._turn-end l.initial.found l.initial.c
