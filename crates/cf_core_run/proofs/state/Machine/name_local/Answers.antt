use Rattle.cf_core_objects.specs.Store.{state_of, value_of}
use Rattle.cf_core_objects.specs.Named.{named}
use Rattle.cf_core_objects.proofs.ThenLaws.{told-err, told-ok}
use Rattle.cf_core_run.proofs.Laws.{value-gives, value-stopped}
use Rattle.cf_core_run.proofs.state.Machine.name_local.Goals as goal

pub returns-in-Err-clause-comes : goal.returns-in-Err-clause-comes
returns-in-Err-clause-comes c = λ p. value-stopped p c.args.self.now (λ T. named c.args.number) c.in-Err.stop
    (λ T w. told-err value_of c.local_value.result c.in-Err.stop (state_of T c.args.self.now.entered c.args.self.now.objects) w
    (named c.args.number (state_of T c.args.self.now.entered c.args.self.now.objects) w) c.in-Err.is (c.local_value.ensures T w))

pub returns-in-Ok-clause-comes : goal.returns-in-Ok-clause-comes
returns-in-Ok-clause-comes c = λ p. value-gives p c.args.self.now c.args.self.now.entered c.args.self.now.objects (λ T. named c.args.number) c.in-Ok.v
    (λ T w. told-ok value_of c.local_value.result c.in-Ok.v (state_of T c.args.self.now.entered c.args.self.now.objects) w
    (named c.args.number (state_of T c.args.self.now.entered c.args.self.now.objects) w) c.in-Ok.is (c.local_value.ensures T w))
