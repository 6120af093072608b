use Rattle.cf_core_run.proofs.NearLaws.{maybe-some}
use Rattle.cf_core_run.specs.Nearer.{maybe_weight}
use Rattle.std.proofs.Common.{Option, ap, arith, ◌∙◌}
use Rattle.cf_core.specs.Calls.{Falls}
use Rattle.cf_core.specs.Run.{gives}
use Rattle.cf_run_tree.specs.declared.node.Node.{Node}
use Rattle.cf_run_tree.specs.Tree.{core_of}
use Rattle.cf_core_run.specs.Going.{performed, performed_other}
use Rattle.cf_core_objects.specs.Store.{state_of}
use Rattle.cf_core_run.proofs.Laws.{flow-as}
use Rattle.cf_core_run.proofs.state.Machine.perform_other.Goals as goal

pub returns-in-None-clause-comes : goal.returns-in-None-clause-comes
returns-in-None-clause-comes c = λ p. flow-as p c.args.self.now (λ T. performed_other T p c.args.self.now.fuel c.args.no.now) (λ T. gives Falls) c.ends.result c.ends.new.self (c.ends.ensures.comes p)
    (λ T w. ap (λ (x : Option Node). performed_other T p c.args.self.now.fuel x (state_of T c.args.self.now.entered c.args.self.now.objects) w) c.in-None.is)

pub returns-in-Some-clause-comes : goal.returns-in-Some-clause-comes
returns-in-Some-clause-comes c = λ p. flow-as p c.args.self.now (λ T. performed_other T p c.args.self.now.fuel c.args.no.now) (λ T. performed T p c.args.self.now.fuel (core_of T p c.in-Some.s)) c.perform_next.result c.perform_next.new.self (c.perform_next.ensures.comes p)
    (λ T w. ap (λ (x : Option Node). performed_other T p c.args.self.now.fuel x (state_of T c.args.self.now.entered c.args.self.now.objects) w) c.in-Some.is)

pub returns-in-None-clause-within : goal.returns-in-None-clause-within
returns-in-None-clause-within c = λ p. omega (arith, c.ends.ensures.within p)

pub returns-in-Some-clause-within : goal.returns-in-Some-clause-within
returns-in-Some-clause-within c = λ p. omega (arith, c.perform_next.ensures.within p, ap maybe_weight c.in-Some.is ∙ maybe-some c.in-Some.s)
