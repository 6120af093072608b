use Rattle.cf_core.specs.Calls.{returned}
use Rattle.cf_run_tree.specs.Tree.{shape_type}
use Rattle.cf_core_run.specs.Going.{go_back, flow_of}
use Rattle.cf_core_objects.specs.Store.{state_of, value_of}
use Rattle.cf_core_run.proofs.Laws.{value-gives}
use Rattle.cf_core_run.proofs.Laws.{value-stopped}
use Rattle.cf_core_objects.proofs.ThenLaws.{told-err, told-ok}
use Rattle.cf_core_run.proofs.state.Machine.go_back.Goals as goal

pub returns-in-Err-clause-comes : goal.returns-in-Err-clause-comes
returns-in-Err-clause-comes c = λ p. value-stopped p c.args.self.now (λ T. go_back T p c.args.self.now.fuel c.args.shape c.args.entered (flow_of c.args.flow)) c.in-Err.stop
    (λ T w. told-err value_of c.returned.result c.in-Err.stop (state_of T c.args.entered c.args.self.now.objects) w (returned (shape_type T c.args.shape) (flow_of c.args.flow) (state_of T c.args.entered c.args.self.now.objects) w) c.in-Err.is
    (c.returned.ensures T (state_of T c.args.entered c.args.self.now.objects) w))

pub returns-in-Ok-clause-comes : goal.returns-in-Ok-clause-comes
returns-in-Ok-clause-comes c = λ p. value-gives p c.args.self.now c.args.entered c.args.self.now.objects (λ T. go_back T p c.args.self.now.fuel c.args.shape c.args.entered (flow_of c.args.flow)) c.in-Ok.v
    (λ T w. told-ok value_of c.returned.result c.in-Ok.v (state_of T c.args.entered c.args.self.now.objects) w (returned (shape_type T c.args.shape) (flow_of c.args.flow) (state_of T c.args.entered c.args.self.now.objects) w) c.in-Ok.is
    (c.returned.ensures T (state_of T c.args.entered c.args.self.now.objects) w))
