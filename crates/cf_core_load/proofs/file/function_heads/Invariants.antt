use Rattle.std.proofs.Common.{◌≡◌, ◌++◌, map, drop}
use Rattle.cf_core_load.specs.Files.{function_head}
use Rattle.cf_core_load.proofs.file.function_heads.Given as goal

abbrev pub invariant-loop-f : goal.invariant-loop-f
invariant-loop-f l = l.heads ++ map (function_head l.own) (drop l.f-index l.all) ≡ map (function_head l.own) l.all
