use Rattle.std.proofs.Common.{◌≡◌, drop}
use Rattle.std.specs.List.{flat_map}
use Rattle.cf_core.specs.FromTypes.{Tables}
use Rattle.cf_lower.specs.Functions.{declared_at}
use Rattle.cf_lower_fn.specs.Walks.{told}
use Rattle.cf_lower_types.specs.Bare.{classes_of}
use Rattle.cf_lowerable_names.specs.Given.{are_in}
use Rattle.cf_lowerable_names.proofs.named.are_there.Given as goal

abbrev pub invariant-loop-action : goal.invariant-loop-action
invariant-loop-action l =
    (tables : Tables)
    → are_in l.names (flat_map (declared_at (classes_of tables)) (told tables (drop l.action-index l.actions)))
    ≡ are_in l.names (flat_map (declared_at (classes_of tables)) (told tables l.actions))
