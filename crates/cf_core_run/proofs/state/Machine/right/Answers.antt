use Rattle.std.proofs.Common.{None, arith}
use Rattle.cf_core.specs.Run.{◌>>=◌}
use Rattle.cf_run_tree.specs.Tree.{core_of}
use Rattle.cf_core_run.specs.Going.{valued}
use Rattle.cf_core_objects.specs.Store.{state_of, value_of}
use Rattle.cf_core_store.specs.Values.{ready, of_two}
use Rattle.cf_core_run.proofs.Laws.{value-err, value-ok}
use Rattle.cf_core_run.proofs.state.Machine.right.Goals as goal

pub returns-in-Err-clause-comes : goal.returns-in-Err-clause-comes
returns-in-Err-clause-comes c = λ p. value-err p c.args.self.now value_of c.ready.result c.in-Err.stop (λ T. ready c.args.op (value_of c.args.v)) (λ T x. valued T p c.args.self.now.fuel (core_of T p c.args.b.now) None >>= of_two c.args.op x)
    (λ T. state_of T c.args.self.now.entered c.args.self.now.objects) c.in-Err.is (λ T w. c.ready.ensures (state_of T c.args.self.now.entered c.args.self.now.objects) w)

pub returns-in-Ok-clause-comes : goal.returns-in-Ok-clause-comes
returns-in-Ok-clause-comes c = λ p. value-ok p c.args.self.now c.args.self.now.entered c.args.self.now.objects value_of c.ready.result c.in-Ok.x (λ T. ready c.args.op (value_of c.args.v))
    (λ T x. valued T p c.args.self.now.fuel (core_of T p c.args.b.now) None >>= of_two c.args.op x)
    c.down.result c.down.new.self c.in-Ok.is (λ T w. c.ready.ensures (state_of T c.args.self.now.entered c.args.self.now.objects) w) (c.down.ensures.comes p)

pub returns-in-Ok-clause-within : goal.returns-in-Ok-clause-within
returns-in-Ok-clause-within c = λ p. omega (arith, c.down.ensures.within p)
