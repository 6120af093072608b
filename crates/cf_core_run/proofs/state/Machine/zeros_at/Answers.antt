use Rattle.std.proofs.Common.{[], Ok, refl, subst}
use Rattle.cf_core.specs.Access.{fill_zeros}
use Rattle.cf_core.specs.Run.{gives}
use Rattle.cf_core.specs.Store.{Built}
use Rattle.cf_core_place.specs.Routes.{place_of, goal_place}
use Rattle.cf_core_place.specs.declared.part.Place.{Place as Spot}
use Rattle.cf_core_objects.specs.Answer.{Told}
use Rattle.cf_core_objects.specs.declared.answer.Value.TheVariants as given
use Rattle.cf_core_objects.specs.Store.{state_of}
use Rattle.cf_core_run.specs.declared.mark.Doing.TheVariants as doing
use Rattle.cf_core_run.specs.declared.state.Step.TheVariants as step
use Rattle.cf_core_run.proofs.Laws.{value-err, value-ok}
use Rattle.cf_core_run.proofs.state.Machine.zeros_at.Goals as goal

pub returns-in-Err-clause-comes : goal.returns-in-Err-clause-comes
returns-in-Err-clause-comes c = λ p. value-err p c.args.self.now (λ u. tt) c.fill_zeros.result c.in-Err.stop (λ T. fill_zeros [] (goal_place c.args.goal)) (λ T u. gives Built) (λ T. state_of T c.args.self.now.entered c.fill_zeros.new.objects) c.in-Err.is (λ T w. subst (λ (q : Spot). Told (λ u. tt) c.fill_zeros.result (state_of T c.args.self.now.entered c.fill_zeros.new.objects) w (fill_zeros [] (place_of q) (state_of T c.args.self.now.entered c.args.self.now.objects) w)) c.place.ensures (c.fill_zeros.ensures T c.args.self.now.entered w))

pub returns-in-Ok-clause-comes : goal.returns-in-Ok-clause-comes
returns-in-Ok-clause-comes c = λ p. value-ok p c.args.self.now c.args.self.now.entered c.fill_zeros.new.objects (λ u. tt) c.fill_zeros.result tt (λ T. fill_zeros [] (goal_place c.args.goal)) (λ T u. gives Built)
    (Ok step.On) (record c.args.self.now { objects = c.fill_zeros.new.objects; doing = doing.Gives given.Built }) c.in-Ok.is (λ T w. subst (λ (q : Spot). Told (λ u. tt) c.fill_zeros.result (state_of T c.args.self.now.entered c.fill_zeros.new.objects) w (fill_zeros [] (place_of q) (state_of T c.args.self.now.entered c.args.self.now.objects) w)) c.place.ensures (c.fill_zeros.ensures T c.args.self.now.entered w)) (record { same = λ T o. refl })
