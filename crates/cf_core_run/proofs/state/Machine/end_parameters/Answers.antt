use Rattle.cf_core_objects.specs.Answer.{Told}
use Rattle.std.proofs.Common.{List, ℕ, Err, ap, subst, reverse}
use Rattle.cf_core.specs.Run.{◌>>=◌, gives, for_all, object_changed, gone}
use Rattle.cf_core_objects.specs.Then.{◌▷◌}
use Rattle.cf_core_run.specs.Going.{go_parameters, flow_of}
use Rattle.cf_core_objects.specs.Store.{state_of}
use Rattle.cf_core_run.proofs.Laws.{flow-as, flow-err, flow-ok}
use Rattle.cf_core_run.proofs.StatementLaws.{end-all}
use Rattle.cf_core_run.proofs.state.Machine.end_parameters.Goals as goal

pub returns-in-Err-clause-comes : goal.returns-in-Err-clause-comes
returns-in-Err-clause-comes c = λ p. flow-as p c.args.self.now (λ T. go_parameters T p c.args.self.now.fuel c.args.made.items (flow_of c.args.flow)) (λ T. for_all (reverse c.args.made.items) (λ o. object_changed o gone) >>= (λ u. gives (flow_of c.args.flow))) (Err c.in-Err.stop) c.args.self.now
    (flow-err p c.args.self.now (λ u. tt) c.end_objects.result c.in-Err.stop (λ T. for_all (reverse c.args.made.items) (λ o. object_changed o gone)) (λ T u. gives (flow_of c.args.flow)) (λ T. state_of T c.args.self.now.entered c.end_objects.new.objects) c.in-Err.is (λ T w. subst (λ (l : List ℕ). Told (λ u. tt) c.end_objects.result (state_of T c.args.self.now.entered c.end_objects.new.objects) w (for_all (reverse l) (λ o. object_changed o gone) (state_of T c.args.self.now.entered c.args.self.now.objects) w)) c.as_slice.ensures.value (c.end_objects.ensures T c.args.self.now.entered w)))
    (λ T w. ap (λ r. r ▷ (λ u. gives (flow_of c.args.flow))) (end-all T p c.args.self.now.fuel (reverse c.args.made.items) (state_of T c.args.self.now.entered c.args.self.now.objects) w))

pub returns-clause-comes : goal.returns-clause-comes
returns-clause-comes c = λ p. flow-as p c.args.self.now (λ T. go_parameters T p c.args.self.now.fuel c.args.made.items (flow_of c.args.flow)) (λ T. for_all (reverse c.args.made.items) (λ o. object_changed o gone) >>= (λ u. gives (flow_of c.args.flow))) c.ends.result c.ends.new.self
    (flow-ok p c.args.self.now c.args.self.now.entered c.end_objects.new.objects (λ u. tt) c.end_objects.result tt (λ T. for_all (reverse c.args.made.items) (λ o. object_changed o gone)) (λ T u. gives (flow_of c.args.flow)) c.ends.result c.ends.new.self c.in-Ok.is (λ T w. subst (λ (l : List ℕ). Told (λ u. tt) c.end_objects.result (state_of T c.args.self.now.entered c.end_objects.new.objects) w (for_all (reverse l) (λ o. object_changed o gone) (state_of T c.args.self.now.entered c.args.self.now.objects) w)) c.as_slice.ensures.value (c.end_objects.ensures T c.args.self.now.entered w)) (c.ends.ensures.comes p))
    (λ T w. ap (λ r. r ▷ (λ u. gives (flow_of c.args.flow))) (end-all T p c.args.self.now.fuel (reverse c.args.made.items) (state_of T c.args.self.now.entered c.args.self.now.objects) w))
