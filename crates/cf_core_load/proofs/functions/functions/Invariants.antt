use Rattle.std.proofs.Common.{◌≡◌, map, drop}
use Rattle.cf_core_node.specs.Formed.{all}
use Rattle.cf_core_node.proofs.Loops.{in_front}
use Rattle.cf_core_load.specs.Files.{function}
use Rattle.cf_core_load.proofs.functions.functions.Given as goal

abbrev pub invariant-loop-f : goal.invariant-loop-f
invariant-loop-f l = in_front l.found (all (map (function l.unit.types l.defined) (drop l.f-index l.all))) ≡ all (map (function l.unit.types l.defined) l.all)
