use Rattle.std.proofs.Common.{◌≡◌, ◌++◌, drop}
use Rattle.cf_core_load.specs.Files.{own_statics}
use Rattle.cf_core_load.proofs.file.add_statics.Given as goal

abbrev pub invariant-loop-x : goal.invariant-loop-x
invariant-loop-x l = l.names ++ own_statics (drop l.x-index l.all) ≡ l.initial.names ++ own_statics l.all
