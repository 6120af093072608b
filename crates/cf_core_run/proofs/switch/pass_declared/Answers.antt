use Rattle.std.proofs.Common.{◌∙◌, ap, sym}
use Rattle.cf_run_tree.specs.declared.node.Node.{Node}
use Rattle.cf_run_tree.specs.Tree.{core_of, object_type}
use Rattle.cf_core_objects.specs.Store.{state_of}
use Rattle.cf_core_run.specs.Labels.{passes_local}
use Rattle.cf_core_run.proofs.LabelLaws.{declared-start}
use Rattle.cf_core_run.proofs.switch.pass_declared.Goals as goal

pub returns-in_default : goal.returns-in_default
returns-in_default c = λ T p w.
    ap (λ (n : Node). passes_local c.args.number (object_type T c.args.ty.now) (core_of T p n) (state_of T c.args.entered.now c.args.objects.now) w) (sym c.get.ensures)
    ∙ ap (λ act. act (state_of T c.args.entered.now c.args.objects.now) w) (declared-start T p c.args.number (object_type T c.args.ty.now) c.get.result.now c.in_default.not-Blank)
