use Rattle.std.proofs.Common.{◌≡◌, drop}
use Rattle.std.specs.List.{flat_map}
use Rattle.cf_lower.specs.Functions.{declared_at}
use Rattle.cf_lower_fn.specs.Walks.{told}
use Rattle.cf_lower_types.specs.Bare.{classes_of}
use Rattle.cf_lowerable_names.specs.Linked.{all_named}
use Rattle.cf_lowerable_names.proofs.linked.actions_fit.Given as goal

abbrev pub invariant-loop-action : goal.invariant-loop-action
invariant-loop-action l =
    all_named l.known (flat_map (declared_at (classes_of l.tables)) (told l.tables (drop l.action-index l.actions)))
    ≡ all_named l.known (flat_map (declared_at (classes_of l.tables)) (told l.tables l.actions))
