use Rattle.std.proofs.Common.{◌≡◌, ◌++◌, drop, map}
use Rattle.std.specs.List.{flat_map}
use Rattle.cf_core.specs.FromTypes.{Tables}
use Rattle.cf_core.specs.FromUnit.{static_of}
use Rattle.cf_lowerable_core.specs.Named.{static_literals}
use Rattle.cf_lowerable_core.proofs.literals.add_statics.Given as goal

abbrev pub invariant-loop-x : goal.invariant-loop-x
invariant-loop-x l =
    (tables : Tables) → l.names ++ flat_map static_literals (map (static_of tables) (drop l.x-index l.initial.all)) ≡ l.initial.names ++ flat_map static_literals (map (static_of tables) l.initial.all)
