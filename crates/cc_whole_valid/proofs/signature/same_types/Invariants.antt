use Rattle.std.proofs.Common.{◌≡◌, drop}
use Rattle.cc_whole.specs.Types.{same_types}
use Rattle.cc_whole_valid.specs.Memory.{type_at}
use Rattle.cc_whole_valid.proofs.signature.same_types.Given as goal

-- those behind decide
abbrev pub invariant-loop-index : goal.invariant-loop-index
invariant-loop-index l =
    same_types (drop l.index (type_at l.a).parameters) (drop l.index (type_at l.b).parameters) ≡ same_types (type_at l.a).parameters (type_at l.b).parameters
