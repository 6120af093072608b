use Rattle.std.proofs.Common.{◌≡◌, drop}
use Rattle.std.specs.List.{list_all}
use Rattle.cf_core.specs.FromUnit.{tables_of}
use Rattle.cf_lowerable_core.specs.Looks.{node_looks}
use Rattle.cf_core_nodes.specs.Views.{shown}
use Rattle.cf_lowerable_core.proofs.files.nodes_look.Given as goal

abbrev pub invariant-loop-e : goal.invariant-loop-e
invariant-loop-e l = list_all node_looks (shown (tables_of l.unit) (drop l.e-index l.nodes)) ≡ list_all node_looks (shown (tables_of l.unit) l.nodes)
