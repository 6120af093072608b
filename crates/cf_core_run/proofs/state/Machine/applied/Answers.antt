use Rattle.cf_core_objects.specs.Store.{state_of, value_of}
use Rattle.cf_core_store.specs.Values.{of_value}
use Rattle.cf_core_objects.proofs.ThenLaws.{told-err, told-ok}
use Rattle.cf_core_run.proofs.Laws.{value-gives, value-stopped}
use Rattle.cf_core_run.proofs.state.Machine.applied.Goals as goal

pub returns-in-Err-clause-comes : goal.returns-in-Err-clause-comes
returns-in-Err-clause-comes c = λ p. value-stopped p c.args.self.now (λ T. of_value T c.args.op (value_of c.args.v)) c.in-Err.stop
    (λ T w. told-err value_of c.apply.result c.in-Err.stop (state_of T c.args.self.now.entered c.apply.new.objects) w
    (of_value T c.args.op (value_of c.args.v) (state_of T c.args.self.now.entered c.args.self.now.objects) w) c.in-Err.is (c.apply.ensures T c.args.self.now.entered w))

pub returns-in-Ok-clause-comes : goal.returns-in-Ok-clause-comes
returns-in-Ok-clause-comes c = λ p. value-gives p c.args.self.now c.args.self.now.entered c.apply.new.objects (λ T. of_value T c.args.op (value_of c.args.v)) c.in-Ok.x
    (λ T w. told-ok value_of c.apply.result c.in-Ok.x (state_of T c.args.self.now.entered c.apply.new.objects) w
    (of_value T c.args.op (value_of c.args.v) (state_of T c.args.self.now.entered c.args.self.now.objects) w) c.in-Ok.is (c.apply.ensures T c.args.self.now.entered w))
