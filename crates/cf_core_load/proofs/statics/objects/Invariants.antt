use Rattle.std.proofs.Common.{◌≡◌, map, drop}
use Rattle.cf_core_node.specs.Formed.{all}
use Rattle.cf_core_node.proofs.Loops.{in_front}
use Rattle.cf_core_load.specs.Files.{object}
use Rattle.cf_core_load.proofs.statics.objects.Given as goal

abbrev pub invariant-loop-x : goal.invariant-loop-x
invariant-loop-x l = in_front l.found (all (map (object l.unit.types l.defined) (drop l.x-index l.all))) ≡ all (map (object l.unit.types l.defined) l.all)
