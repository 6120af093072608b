use Rattle.std.proofs.Common.{Err, ap, reverse}
use Rattle.cf_core.specs.Run.{◌>>=◌, ◌>>◌, gives, for_all, object_changed, gone, frame_changed}
use Rattle.cf_core_objects.specs.Then.{◌▷◌}
use Rattle.cf_core_run.specs.Going.{go_scope, flow_of}
use Rattle.cf_core_objects.specs.Store.{state_of}
use Rattle.cf_core_run.proofs.Laws.{flow-as, flow-err, flow-ok}
use Rattle.cf_core_run.proofs.StatementLaws.{end-all}
use Rattle.cf_core_run.proofs.state.Machine.close_scope.Goals as goal

pub returns-in-Err-clause-comes : goal.returns-in-Err-clause-comes
returns-in-Err-clause-comes c = λ p. flow-as p c.args.self.now (λ T. go_scope T p c.args.self.now.fuel c.args.around.items (flow_of c.args.flow)) (λ T. for_all (reverse c.args.self.now.entered.scope.items) (λ o. object_changed o gone) >>= (λ u. frame_changed (λ f. record f { scope = reverse c.args.around.items }) >> gives (flow_of c.args.flow))) (Err c.in-Err.stop) c.args.self.now
    (flow-err p c.args.self.now (λ u. tt) c.end_scope.result c.in-Err.stop (λ T. for_all (reverse c.args.self.now.entered.scope.items) (λ o. object_changed o gone)) (λ T u. frame_changed (λ f. record f { scope = reverse c.args.around.items }) >> gives (flow_of c.args.flow))
    (λ T. state_of T c.args.self.now.entered c.end_scope.new.objects) c.in-Err.is
    (λ T w. c.end_scope.ensures T w))
    (λ T w. ap (λ r. r ▷ (λ u. frame_changed (λ f. record f { scope = reverse c.args.around.items }) >> gives (flow_of c.args.flow))) (end-all T p c.args.self.now.fuel (reverse c.args.self.now.entered.scope.items) (state_of T c.args.self.now.entered c.args.self.now.objects) w))

pub returns-in-Ok-clause-comes : goal.returns-in-Ok-clause-comes
returns-in-Ok-clause-comes c = λ p. flow-as p c.args.self.now (λ T. go_scope T p c.args.self.now.fuel c.args.around.items (flow_of c.args.flow)) (λ T. for_all (reverse c.args.self.now.entered.scope.items) (λ o. object_changed o gone) >>= (λ u. frame_changed (λ f. record f { scope = reverse c.args.around.items }) >> gives (flow_of c.args.flow))) c.ends.result c.ends.new.self
    (flow-ok p c.args.self.now c.args.self.now.entered c.end_scope.new.objects (λ u. tt) c.end_scope.result tt (λ T. for_all (reverse c.args.self.now.entered.scope.items) (λ o. object_changed o gone)) (λ T u. frame_changed (λ f. record f { scope = reverse c.args.around.items }) >> gives (flow_of c.args.flow))
    c.ends.result c.ends.new.self c.in-Ok.is
    (λ T w. c.end_scope.ensures T w)
    (c.ends.ensures.comes p))
    (λ T w. ap (λ r. r ▷ (λ u. frame_changed (λ f. record f { scope = reverse c.args.around.items }) >> gives (flow_of c.args.flow))) (end-all T p c.args.self.now.fuel (reverse c.args.self.now.entered.scope.items) (state_of T c.args.self.now.entered c.args.self.now.objects) w))
