use Rattle.std.proofs.Common.{◌≡◌, map, drop}
use Rattle.cf_core_node.specs.Formed.{all}
use Rattle.cf_core_node.specs.Nodes.{node_of}
use Rattle.cf_core_node.proofs.Loops.{in_front}
use Rattle.cf_core_node.proofs.+nodes.Given as goal

abbrev pub invariant-parts::all-loop-e : goal.invariant-parts::all-loop-e
invariant-parts::all-loop-e l = in_front l.found (all (map (node_of l.unit.types l.defined) (drop l.e-index l.e-items))) ≡ all (map (node_of l.unit.types l.defined) l.e-items)
