use Rattle.std.proofs.Common.{◌≡◌, map, drop}
use Rattle.cc_whole.specs.Plain.{expression_of}
use Rattle.cc_whole_valid.specs.Checking.{arguments_from}
use Rattle.cc_whole_valid.specs.Memory.{type_at}
use Rattle.cc_whole_valid.proofs.calls.arguments_from.Given as goal

-- those behind are checked from here on
abbrev pub invariant-loop-index : goal.invariant-loop-index
invariant-loop-index l =
    arguments_from (drop l.index (type_at l.s).parameters) (map expression_of (drop l.index l.all)) l.names l.at
    ≡ arguments_from (type_at l.s).parameters (map expression_of l.all) l.names l.initial.at
