use Rattle.std.proofs.Common.{◌≡◌, drop}
use Rattle.std.specs.List.{list_all}
use Rattle.cf_base.specs.Integers.{fits}
use Rattle.cf_base.specs.declared.kind.Kind.TheVariants.{Int}
use Rattle.cf_core.specs.FromTypes.{Tables}
use Rattle.cf_sequence_lowered.specs.Nodes.{core_labels}
use Rattle.cf_core_nodes.specs.Views.{viewed}
use Rattle.cf_lowerable_core.proofs.nodes.are_ints.Given as goal

abbrev pub invariant-loop-s : goal.invariant-loop-s
invariant-loop-s l =
    (tables : Tables) → list_all (fits Int) (core_labels (viewed tables (drop l.s-index l.body))) ≡ list_all (fits Int) (core_labels (viewed tables l.body))
