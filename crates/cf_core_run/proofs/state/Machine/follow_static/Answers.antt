use Rattle.std.proofs.Common.{[]}
use Rattle.cf_core.specs.Access.{followed}
use Rattle.cf_core.specs.Calls.{root}
use Rattle.cf_core_objects.specs.Store.{state_of, value_of}
use Rattle.cf_core_objects.proofs.ThenLaws.{told-err, told-ok}
use Rattle.cf_core_run.proofs.Laws.{value-gives, value-stopped}
use Rattle.cf_core_run.proofs.state.Machine.follow_static.Goals as goal

pub returns-in-Err-clause-comes : goal.returns-in-Err-clause-comes
returns-in-Err-clause-comes c = λ p. value-stopped p c.args.self.now (λ T. followed [] (root c.args.number)) c.in-Err.stop
    (λ T w. told-err value_of c.static_value.result c.in-Err.stop (state_of T c.args.self.now.entered c.args.self.now.objects) w (followed [] (root c.args.number) (state_of T c.args.self.now.entered c.args.self.now.objects) w) c.in-Err.is (c.static_value.ensures T c.args.self.now.entered w))

pub returns-in-Ok-clause-comes : goal.returns-in-Ok-clause-comes
returns-in-Ok-clause-comes c = λ p. value-gives p c.args.self.now c.args.self.now.entered c.args.self.now.objects (λ T. followed [] (root c.args.number)) c.in-Ok.v
    (λ T w. told-ok value_of c.static_value.result c.in-Ok.v (state_of T c.args.self.now.entered c.args.self.now.objects) w (followed [] (root c.args.number) (state_of T c.args.self.now.entered c.args.self.now.objects) w) c.in-Ok.is (c.static_value.ensures T c.args.self.now.entered w))
