use Rattle.cf_core_run.proofs.NearLaws.{pushed-left, weights-first}
use Rattle.cf_core_run.specs.Nearer.{weights}
use Rattle.std.proofs.Common.{List, ap, arith, ◌∙◌}
use Rattle.cf_core.specs.Calls.{Falls}
use Rattle.cf_core.specs.Run.{gives}
use Rattle.cf_run_tree.specs.declared.node.Node.{Node}
use Rattle.cf_core_run.specs.Going.{performed_all, cores}
use Rattle.cf_core_objects.specs.Store.{state_of}
use Rattle.cf_core_run.proofs.Laws.{nil, flow-as}
use Rattle.cf_core_run.proofs.StatementLaws.{follow-goes}
use Rattle.cf_core_run.proofs.state.Machine.follow.Goals as goal

pub returns-in-None-clause-comes : goal.returns-in-None-clause-comes
returns-in-None-clause-comes c = λ p. flow-as p c.args.self.now (λ T. performed_all T p c.args.self.now.fuel (cores T p c.args.all.now)) (λ T. gives Falls) c.ends.result c.ends.new.self (c.ends.ensures.comes p)
    (λ T w. ap (λ (l : List Node). performed_all T p c.args.self.now.fuel (cores T p l) (state_of T c.args.self.now.entered c.args.self.now.objects) w) (nil c.args.all.now c.in-None.ensures.cases))

pub returns-in_ok-push-in-Some-clause-comes : goal.returns-in_ok-push-in-Some-clause-comes
returns-in_ok-push-in-Some-clause-comes c = λ p. follow-goes p c.args.self.now c.push.new.self c.args.all.now c.in-Some.first c.in-Some.rest c.in_ok-push-in-Some.ensures.items c.in-Some.ensures.cases.0

pub returns-in-None-clause-within : goal.returns-in-None-clause-within
returns-in-None-clause-within c = λ p. omega (arith, c.ends.ensures.within p)

pub returns-in_ok-push-in-Some-clause-within : goal.returns-in_ok-push-in-Some-clause-within
returns-in_ok-push-in-Some-clause-within c = λ p. omega (arith, pushed-left _ _ _ c.in_ok-push-in-Some.ensures.items, ap weights c.in-Some.ensures.cases.0 ∙ weights-first c.in-Some.first.now c.in-Some.rest.now)
