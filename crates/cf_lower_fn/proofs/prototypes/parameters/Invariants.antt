use Rattle.std.proofs.Common.{◌≡◌, ◌++◌, drop, map}
use Rattle.cf_core.specs.FromTypes.{type_of}
use Rattle.cf_lower.specs.Functions.{lowered_parameters}
use Rattle.cf_lower_fn.proofs.prototypes.parameters.Given as goal

abbrev pub invariant-loop-id : goal.invariant-loop-id
invariant-loop-id l =
    l.made ++ lowered_parameters l.number (map (type_of l.tables) (drop l.id-index l.types)) ≡ lowered_parameters 0 (map (type_of l.tables) l.types)
