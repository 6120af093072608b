use Rattle.std.proofs.Common.{◌≡◌, ◌++◌, drop}
use Rattle.std.specs.List.{flat_map}
use Rattle.cf_lower.specs.Functions.{arguments_at}
use Rattle.cf_lower_fn.specs.Walks.{told}
use Rattle.cf_lowerable_places.proofs.functions.arguments_of.Given as goal

abbrev pub invariant-loop-action : goal.invariant-loop-action
invariant-loop-action l = l.made ++ flat_map arguments_at (told l.tables (drop l.action-index l.all)) ≡ flat_map arguments_at (told l.tables l.all)
