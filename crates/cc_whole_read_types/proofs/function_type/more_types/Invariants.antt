use Rattle.std.proofs.Common.{◌≡◌, ◌-◌}
use Rattle.cc_whole_tokens.specs.declared.mark.Mark.TheVariants as mark
use Rattle.cc_whole_reading.specs.Parse.{many, past, sees}
use Rattle.cc_whole_read_types.specs.ReadTypes.{type_name}
use Rattle.cc_whole_read_types.proofs.function_type.more_types.Given as goal

abbrev pub invariant-loop-turn : goal.invariant-loop-turn
invariant-loop-turn l =
    many (sees mark.Comma) (past type_name) (l._turn-end - l._turn) l.found l.c ≡ many (sees mark.Comma) (past type_name) l._turn-end l.initial.found l.initial.c
