use Rattle.std.proofs.Common.{◌≡◌, drop}
use Rattle.cf_base.specs.World.{World}
use Rattle.cf_core.specs.FromTypes.{Tables}
use Rattle.cf_core.specs.Statements.{passes_all}
use Rattle.cf_core_objects.specs.Store.{state_of}
use Rattle.cf_run_tree.specs.declared.program.Program.{Program}
use Rattle.cf_core_run.specs.Labels.{row}
use Rattle.cf_core_run.proofs.switch.+pass_over.Given as goal

abbrev pub invariant-pass_all-loop-s : goal.invariant-pass_all-loop-s
invariant-pass_all-loop-s l = (T : Tables) (p : Program) (w : World) → passes_all (row T p (drop l.s-index l.initial.all)) (state_of T l.entered l.objects) w
    ≡ passes_all (row T p l.initial.all) (state_of T l.initial.entered l.initial.objects) w
