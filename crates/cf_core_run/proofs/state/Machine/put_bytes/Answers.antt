use Rattle.std.proofs.Common.{Ok, refl}
use Rattle.cf_core.specs.Objects.{write_bytes}
use Rattle.cf_core.specs.Run.{gives}
use Rattle.cf_core.specs.Store.{Built}
use Rattle.cf_core_place.specs.Routes.{row_place}
use Rattle.cf_core_objects.specs.declared.answer.Value.TheVariants as given
use Rattle.cf_core_objects.specs.Store.{state_of}
use Rattle.cf_core_run.specs.declared.mark.Doing.TheVariants as doing
use Rattle.cf_core_run.specs.declared.state.Step.TheVariants as step
use Rattle.cf_core_run.proofs.Laws.{value-err, value-ok}
use Rattle.cf_core_run.proofs.state.Machine.put_bytes.Goals as goal

pub returns-in-Err-clause-comes : goal.returns-in-Err-clause-comes
returns-in-Err-clause-comes c = λ p. value-err p c.args.self.now (λ u. tt) c.write_bytes.result c.in-Err.stop (λ T. write_bytes c.args.kind (row_place c.args.row) 0 c.args.bytes.now) (λ T u. gives Built) (λ T. state_of T c.args.self.now.entered c.write_bytes.new.objects) c.in-Err.is (λ T w. c.write_bytes.ensures T c.args.self.now.entered w)

pub returns-in-Ok-clause-comes : goal.returns-in-Ok-clause-comes
returns-in-Ok-clause-comes c = λ p. value-ok p c.args.self.now c.args.self.now.entered c.write_bytes.new.objects (λ u. tt) c.write_bytes.result tt (λ T. write_bytes c.args.kind (row_place c.args.row) 0 c.args.bytes.now) (λ T u. gives Built)
    (Ok step.On) (record c.args.self.now { objects = c.write_bytes.new.objects; doing = doing.Gives given.Built }) c.in-Ok.is (λ T w. c.write_bytes.ensures T c.args.self.now.entered w) (record { same = λ T o. refl })
