use Rattle.cf_core_run.proofs.NearLaws.{pushed-left}
use Rattle.cf_core.specs.Calls as calls
use Rattle.std.proofs.Common.{refl, arith}
use Rattle.cf_core.specs.Calls.{name_function, run_library, root}
use Rattle.cf_run_tree.specs.Tree.{function_of}
use Rattle.cf_core_run.proofs.StatementLaws.{again-none}
use Rattle.cf_core_run.proofs.CallLaws.{begin-goes}
use Rattle.cf_core_run.proofs.state.Machine.begin_body.Goals as goal

pub returns-then-self-eq0-clause-comes : goal.returns-then-self-eq0-clause-comes
returns-then-self-eq0-clause-comes c = λ p. again-none p c.args.self.now (λ T. calls.body (function_of T p c.args.f.now) c.args.made.items) c.if-self-eq0.true

pub returns-clause-comes : goal.returns-clause-comes
returns-clause-comes c = λ p. begin-goes p c.args.self.now c.open_scope.new.self c.args.f c.args.made _ c.push.new.self c.if-self-eq0.false c.in_ok-push.ensures.items c.in_ok-open_scope.ensures.opens refl

pub returns-clause-within : goal.returns-clause-within
returns-clause-within c = λ p. omega (arith, pushed-left _ _ _ c.in_ok-push.ensures.items, c.in_ok-open_scope.ensures.within)
