use Rattle.std.proofs.Common.{◌≡◌, ◌++◌, drop, map}
use Rattle.std.specs.List.{flat_map}
use Rattle.cf_core.specs.FromTypes.{Tables}
use Rattle.cf_core.specs.FromUnit.{function_of}
use Rattle.cf_lowerable_core.specs.Named.{function_literals}
use Rattle.cf_lowerable_core.proofs.literals.add_functions.Given as goal

abbrev pub invariant-loop-f : goal.invariant-loop-f
invariant-loop-f l =
    (tables : Tables) → l.names ++ flat_map function_literals (map (function_of tables) (drop l.f-index l.initial.all)) ≡ l.initial.names ++ flat_map function_literals (map (function_of tables) l.initial.all)
