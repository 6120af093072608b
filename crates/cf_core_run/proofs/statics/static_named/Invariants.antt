use Rattle.std.proofs.Common.{◌≡◌}
use Rattle.cf_core.specs.FromTypes.{Tables}
use Rattle.cf_core.specs.Objects.{static_number}
use Rattle.cf_run_tree.specs.Tree.{program_of}
use Rattle.cf_core_run.proofs.StaticLaws.{number_behind}
use Rattle.cf_core_run.proofs.statics.static_named.Given as goal

abbrev pub invariant-loop-x : goal.invariant-loop-x
invariant-loop-x l = (l.number ≡ l.x-index) × ((T : Tables) → number_behind T l.program l.name l.x-items l.x-index ≡ static_number (program_of T l.program) l.name)
