use Rattle.std.proofs.Common.{◌≡◌, drop, map}
use Rattle.std.specs.List.{list_all}
use Rattle.cf_core.specs.FromTypes.{type_of}
use Rattle.cf_core.specs.FromUnit.{tables_of}
use Rattle.cf_lower_program.specs.Types.{is_lowered}
use Rattle.cf_lowerable_core.proofs.types.+is_lowered.Given as goal

abbrev pub decreases-is_lowered : goal.decreases-is_lowered
decreases-is_lowered l = l.id

abbrev pub invariant-loop-parameter : goal.invariant-loop-parameter
invariant-loop-parameter l =
    list_all is_lowered (map (type_of (tables_of l.unit)) (drop l.parameter-index l.fun.params)) ≡ list_all is_lowered (map (type_of (tables_of l.unit)) l.fun.params)
