use Rattle.std.proofs.Common.{◌≡◌, ◌++◌, drop}
use Rattle.cf_core_load.specs.Files.{own_functions}
use Rattle.cf_core_load.proofs.file.add_functions.Given as goal

abbrev pub invariant-loop-f : goal.invariant-loop-f
invariant-loop-f l = l.names ++ own_functions (drop l.f-index l.all) ≡ l.initial.names ++ own_functions l.all
