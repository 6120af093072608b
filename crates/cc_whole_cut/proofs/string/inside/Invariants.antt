use Rattle.std.proofs.Common.{◌-◌}
use Rattle.cc_whole_cut.proofs.Strings.{Within}
use Rattle.cc_whole_cut.proofs.string.inside.Given as goal

abbrev pub invariant-loop-turn : goal.invariant-loop-turn
invariant-loop-turn l = Within l.fn.text l.rest l.bytes l.len (l._turn-end - l._turn)
