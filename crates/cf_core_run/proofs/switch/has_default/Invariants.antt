use Rattle.std.proofs.Common.{◌≡◌, drop}
use Rattle.cf_core.specs.FromTypes.{Tables}
use Rattle.cf_core.specs.Statements.{has_default}
use Rattle.cf_run_tree.specs.declared.program.Program.{Program}
use Rattle.cf_core_run.specs.Labels.{row}
use Rattle.cf_core_run.proofs.switch.has_default.Given as goal

abbrev pub invariant-loop-s : goal.invariant-loop-s
invariant-loop-s l = (T : Tables) (p : Program) → has_default (row T p (drop l.s-index l.all)) ≡ has_default (row T p l.all)
