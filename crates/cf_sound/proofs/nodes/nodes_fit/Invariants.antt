use Rattle.std.proofs.Common.{◌≡◌, drop, map}
use Rattle.std.specs.List.{list_all}
use Rattle.cf_core.specs.FromTypes.{type_of}
use Rattle.cf_core.specs.FromUnit.{file_of, tables_of}
use Rattle.cf_core_nodes.specs.Views.{shown}
use Rattle.cf_sound.specs.Asked.{node_fits}
use Rattle.cf_sound.proofs.nodes.nodes_fit.Given as goal

abbrev pub invariant-loop-e : goal.invariant-loop-e
invariant-loop-e l =
    list_all (node_fits (file_of l.unit) (map (type_of (tables_of l.unit)) l.frame)) (shown (tables_of l.unit) (drop l.e-index l.nodes))
    ≡ list_all (node_fits (file_of l.unit) (map (type_of (tables_of l.unit)) l.frame)) (shown (tables_of l.unit) l.nodes)
