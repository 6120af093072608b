use Rattle.std.proofs.Common.{◌≡◌, ◌++◌, map, drop}
use Rattle.cf_core_load.specs.Files.{static_head}
use Rattle.cf_core_load.proofs.file.static_heads.Given as goal

abbrev pub invariant-loop-x : goal.invariant-loop-x
invariant-loop-x l = l.heads ++ map (static_head l.own) (drop l.x-index l.all) ≡ map (static_head l.own) l.all
