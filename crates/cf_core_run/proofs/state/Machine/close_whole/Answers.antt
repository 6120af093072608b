use Rattle.std.proofs.Common.{Ok, Err, ap, reverse, refl}
use Rattle.cf_core.specs.Run.{◌>>=◌, ◌>>◌, gives, for_all, object_changed, gone, frame_changed}
use Rattle.cf_core_objects.specs.Store.{state_of, value_of}
use Rattle.cf_core_objects.specs.Then.{◌▷◌}
use Rattle.cf_core_run.specs.declared.mark.Doing.TheVariants as doing
use Rattle.cf_core_run.specs.declared.state.Step.TheVariants as step
use Rattle.cf_core_run.specs.Going.{closed}
use Rattle.cf_core_run.proofs.Laws.{value-err, value-ok}
use Rattle.cf_core_run.proofs.StatementLaws.{end-all}
use Rattle.cf_core_run.proofs.TemporaryLaws.{value-at}
use Rattle.cf_core_run.proofs.state.Machine.close_whole.Goals as goal

pub returns-in-Err-clause-comes : goal.returns-in-Err-clause-comes
returns-in-Err-clause-comes c = λ p. value-at p c.args.self.now (λ T. closed T p c.args.self.now.fuel (reverse c.args.around.items) (value_of c.args.v))
    (λ T. for_all (reverse c.args.self.now.entered.temporaries.items) (λ o. object_changed o gone) >>= (λ u. frame_changed (λ f. record f { temporaries = reverse c.args.around.items }) >> gives (value_of c.args.v))) (Err c.in-Err.stop) c.args.self.now
    (value-err p c.args.self.now (λ u. tt) c.end_temporaries.result c.in-Err.stop (λ T. for_all (reverse c.args.self.now.entered.temporaries.items) (λ o. object_changed o gone)) (λ T u. frame_changed (λ f. record f { temporaries = reverse c.args.around.items }) >> gives (value_of c.args.v))
    (λ T. state_of T c.args.self.now.entered c.end_temporaries.new.objects) c.in-Err.is (λ T w. c.end_temporaries.ensures T w))
    (λ T w. ap (λ r. r ▷ (λ u. frame_changed (λ f. record f { temporaries = reverse c.args.around.items }) >> gives (value_of c.args.v))) (end-all T p c.args.self.now.fuel (reverse c.args.self.now.entered.temporaries.items) (state_of T c.args.self.now.entered c.args.self.now.objects) w))

pub returns-in-Ok-clause-comes : goal.returns-in-Ok-clause-comes
returns-in-Ok-clause-comes c = λ p. value-at p c.args.self.now (λ T. closed T p c.args.self.now.fuel (reverse c.args.around.items) (value_of c.args.v))
    (λ T. for_all (reverse c.args.self.now.entered.temporaries.items) (λ o. object_changed o gone) >>= (λ u. frame_changed (λ f. record f { temporaries = reverse c.args.around.items }) >> gives (value_of c.args.v))) (Ok step.On)
    (record c.args.self.now { objects = c.end_temporaries.new.objects; entered = record c.args.self.now.entered { temporaries = c.args.around }; doing = doing.Gives c.args.v })
    (value-ok p c.args.self.now c.args.self.now.entered c.end_temporaries.new.objects (λ u. tt) c.end_temporaries.result tt (λ T. for_all (reverse c.args.self.now.entered.temporaries.items) (λ o. object_changed o gone)) (λ T u. frame_changed (λ f. record f { temporaries = reverse c.args.around.items }) >> gives (value_of c.args.v))
    (Ok step.On) (record c.args.self.now { objects = c.end_temporaries.new.objects; entered = record c.args.self.now.entered { temporaries = c.args.around }; doing = doing.Gives c.args.v }) c.in-Ok.is
    (λ T w. c.end_temporaries.ensures T w) (record { same = λ T o. refl }))
    (λ T w. ap (λ r. r ▷ (λ u. frame_changed (λ f. record f { temporaries = reverse c.args.around.items }) >> gives (value_of c.args.v))) (end-all T p c.args.self.now.fuel (reverse c.args.self.now.entered.temporaries.items) (state_of T c.args.self.now.entered c.args.self.now.objects) w))
