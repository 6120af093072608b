use Rattle.cf_core_run.proofs.NearLaws.{maybe-some}
use Rattle.cf_core_run.specs.Nearer.{maybe_weight}
use Rattle.cf_core_run.specs.declared.mark.TestMark.TheVariants as test
use Rattle.std.proofs.Common.{Option, None, ap, true, arith, ◌∙◌}
use Rattle.cf_core.specs.Calls.{turn}
use Rattle.cf_core.specs.Statements.{step_and}
use Rattle.cf_run_tree.specs.declared.node.Node.{Node}
use Rattle.cf_run_tree.specs.Tree.{core_of, program_of}
use Rattle.cf_core_objects.specs.Then.{◌▷◌}
use Rattle.cf_core_run.specs.Going.{from_flow, valued, maybe_core, full, again, loop_of, turned, go_test}
use Rattle.cf_core_objects.specs.Store.{state_of}
use Rattle.cf_core_run.proofs.Laws.{flow-as}
use Rattle.cf_core_run.proofs.state.Machine.do_step.Goals as goal

pub returns-in-None-clause-comes : goal.returns-in-None-clause-comes
returns-in-None-clause-comes c = λ p. record {
  same = λ T o. ap (λ (x : Option Node). from_flow T p c.args.self.now (step_and (again T p c.args.self.now.fuel) (program_of T p) (maybe_core T p x) (again T p c.args.self.now.fuel (turn (loop_of T p c.args.repeated)))) o) c.in-None.is;
}

pub returns-in-Some-clause-comes : goal.returns-in-Some-clause-comes
returns-in-Some-clause-comes c = λ p. flow-as p c.args.self.now (λ T. turned T p c.args.self.now.fuel c.args.repeated true) (λ T s w. full T p c.args.self.now.fuel (valued T p c.args.self.now.fuel (core_of T p c.in-Some.e) None) s w ▷ go_test T p c.args.self.now.fuel (test.Stepped c.args.repeated)) c.test.result c.test.new.self (c.test.ensures.comes p)
    (λ T w. ap (λ (x : Option Node). step_and (again T p c.args.self.now.fuel) (program_of T p) (maybe_core T p x) (again T p c.args.self.now.fuel (turn (loop_of T p c.args.repeated))) (state_of T c.args.self.now.entered c.args.self.now.objects) w) c.in-Some.is)

pub returns-in-Some-clause-within : goal.returns-in-Some-clause-within
returns-in-Some-clause-within c = λ p. omega (arith, c.test.ensures.within p, ap maybe_weight c.in-Some.is ∙ maybe-some c.in-Some.e)
