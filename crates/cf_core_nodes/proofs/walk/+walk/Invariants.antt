use Rattle.std.proofs.Common.{◌≡◌, ◌++◌, drop}
use Rattle.cf_core.specs.FromTypes.{Tables}
use Rattle.cf_core.specs.Nodes.{nodes_all, nodes_parts}
use Rattle.cf_core_nodes.specs.Views.{viewed, in_parts, shown}
use Rattle.cf_core_nodes.proofs.walk.+walk.Given as goal

abbrev pub invariant-each-loop-e : goal.invariant-each-loop-e
invariant-each-loop-e l =
    (tables : Tables) → shown tables l.all.items ++ nodes_all (viewed tables (drop l.e-index l.initial.es)) ≡ shown tables l.initial.all.items ++ nodes_all (viewed tables l.initial.es)

abbrev pub invariant-each_part-loop-p : goal.invariant-each_part-loop-p
invariant-each_part-loop-p l =
    (tables : Tables) → shown tables l.all.items ++ nodes_parts (in_parts tables (drop l.p-index l.initial.ps)) ≡ shown tables l.initial.all.items ++ nodes_parts (in_parts tables l.initial.ps)
