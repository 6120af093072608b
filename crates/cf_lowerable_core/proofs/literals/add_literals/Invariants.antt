use Rattle.std.proofs.Common.{◌≡◌, ◌++◌, drop}
use Rattle.std.specs.List.{flat_map}
use Rattle.cf_core.specs.FromTypes.{Tables}
use Rattle.cf_sequence_lowered.specs.Literals.{literal_of}
use Rattle.cf_core_nodes.specs.Views.{shown}
use Rattle.cf_lowerable_core.proofs.literals.add_literals.Given as goal

abbrev pub invariant-loop-e : goal.invariant-loop-e
invariant-loop-e l =
    (tables : Tables) → l.names ++ flat_map (literal_of l.function) (shown tables (drop l.e-index l.initial.nodes)) ≡ l.initial.names ++ flat_map (literal_of l.function) (shown tables l.initial.nodes)
