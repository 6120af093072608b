use Rattle.std.proofs.Common.{Ok, refl}
use Rattle.cf_core.specs.Calls.{root}
use Rattle.cf_core.specs.Objects.{literal_object}
use Rattle.cf_core.specs.Run.{gives}
use Rattle.cf_core.specs.Store.{At}
use Rattle.cf_core_objects.specs.declared.answer.Value.TheVariants as given
use Rattle.cf_core_objects.specs.Store.{state_of}
use Rattle.cf_core_run.specs.declared.mark.Doing.TheVariants as doing
use Rattle.cf_core_run.specs.declared.state.Step.TheVariants as step
use Rattle.cf_core_run.specs.Going.{whole_place}
use Rattle.cf_core_run.proofs.Laws.{value-err, value-ok}
use Rattle.cf_core_run.proofs.state.Machine.text.Goals as goal

pub returns-in-Err-clause-comes : goal.returns-in-Err-clause-comes
returns-in-Err-clause-comes c = λ p into. value-err p c.args.self.now (λ o. o) c.literal_object.result c.in-Err.stop (λ T. literal_object c.args.number c.args.bytes.now) (λ T o. gives (At (root o)))
    (λ T. state_of T c.args.self.now.entered c.literal_object.new.objects) c.in-Err.is (λ T w. c.literal_object.ensures T w)

pub returns-in-Ok-clause-comes : goal.returns-in-Ok-clause-comes
returns-in-Ok-clause-comes c = λ p into. value-ok p c.args.self.now c.args.self.now.entered c.literal_object.new.objects (λ o. o) c.literal_object.result c.in-Ok.object (λ T. literal_object c.args.number c.args.bytes.now) (λ T o. gives (At (root o)))
    (Ok step.On) (record c.args.self.now { objects = c.literal_object.new.objects; doing = doing.Gives (given.At (whole_place c.in-Ok.object)) }) c.in-Ok.is (λ T w. c.literal_object.ensures T w) (record { same = λ T o. refl })
