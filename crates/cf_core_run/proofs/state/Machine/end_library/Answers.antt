use Rattle.std.proofs.Common.{List, ℕ, Ok, subst, reverse, refl}
use Rattle.cf_core.specs.Run.{gives, for_all, object_changed, gone}
use Rattle.cf_core_objects.specs.Answer.{Told}
use Rattle.cf_core_objects.specs.Store.{state_of, value_of}
use Rattle.cf_core_run.specs.declared.mark.Doing.TheVariants as doing
use Rattle.cf_core_run.specs.declared.state.Step.TheVariants as step
use Rattle.cf_core_run.proofs.Laws.{value-err, value-ok}
use Rattle.cf_core_run.proofs.state.Machine.end_library.Goals as goal

pub returns-in-Err-clause-comes : goal.returns-in-Err-clause-comes
returns-in-Err-clause-comes c = λ p. value-err p c.args.self.now (λ u. tt) c.end_objects.result c.in-Err.stop (λ T. for_all (reverse c.args.made.items) (λ o. object_changed o gone)) (λ T u. gives (value_of c.args.v)) (λ T. state_of T c.args.self.now.entered c.end_objects.new.objects) c.in-Err.is
    (λ T w. subst (λ (l : List ℕ). Told (λ u. tt) c.end_objects.result (state_of T c.args.self.now.entered c.end_objects.new.objects) w (for_all (reverse l) (λ o. object_changed o gone) (state_of T c.args.self.now.entered c.args.self.now.objects) w)) c.as_slice.ensures.value (c.end_objects.ensures T c.args.self.now.entered w))

pub returns-clause-comes : goal.returns-clause-comes
returns-clause-comes c = λ p. value-ok p c.args.self.now c.args.self.now.entered c.end_objects.new.objects (λ u. tt) c.end_objects.result tt (λ T. for_all (reverse c.args.made.items) (λ o. object_changed o gone)) (λ T u. gives (value_of c.args.v))
    (Ok step.On) (record c.args.self.now { objects = c.end_objects.new.objects; doing = doing.Gives c.args.v }) c.in-Ok.is
    (λ T w. subst (λ (l : List ℕ). Told (λ u. tt) c.end_objects.result (state_of T c.args.self.now.entered c.end_objects.new.objects) w (for_all (reverse l) (λ o. object_changed o gone) (state_of T c.args.self.now.entered c.args.self.now.objects) w)) c.as_slice.ensures.value (c.end_objects.ensures T c.args.self.now.entered w))
    (record { same = λ T o. refl })
