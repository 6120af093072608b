use Rattle.std.proofs.Common.{None}
use Rattle.cf_core.specs.Access.{used}
use Rattle.cf_run_tree.specs.Tree.{signature_type}
use Rattle.cf_core_objects.specs.Store.{state_of, value_of}
use Rattle.cf_core_run.specs.Going.{starting, cores}
use Rattle.cf_core_run.proofs.Laws.{value-err, value-ok}
use Rattle.cf_core_run.proofs.state.Machine.callee.Goals as goal

pub returns-in-Err-clause-comes : goal.returns-in-Err-clause-comes
returns-in-Err-clause-comes c = λ p. value-err p c.args.self.now value_of c.used.result c.in-Err.stop (λ T. used (value_of c.args.v)) (λ T x. starting T p c.args.self.now.fuel x (signature_type T c.args.signature.now) (cores T p c.args.all.now) None)
    (λ T. state_of T c.args.self.now.entered c.args.self.now.objects) c.in-Err.is (λ T w. c.used.ensures (state_of T c.args.self.now.entered c.args.self.now.objects) w)

pub returns-in-Ok-clause-comes : goal.returns-in-Ok-clause-comes
returns-in-Ok-clause-comes c = λ p. value-ok p c.args.self.now c.args.self.now.entered c.args.self.now.objects value_of c.used.result c.in-Ok.callee (λ T. used (value_of c.args.v)) (λ T x. starting T p c.args.self.now.fuel x (signature_type T c.args.signature.now) (cores T p c.args.all.now) None)
    c.start_call.result c.start_call.new.self c.in-Ok.is (λ T w. c.used.ensures (state_of T c.args.self.now.entered c.args.self.now.objects) w) (c.start_call.ensures.comes p None)
