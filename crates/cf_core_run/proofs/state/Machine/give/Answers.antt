use Rattle.cf_core_run.proofs.NearLaws.{maybe-some}
use Rattle.cf_core_run.specs.Nearer.{maybe_weight}
use Rattle.cf_core.specs.Run.{◌>>=◌}
use Rattle.cf_core_store.specs.declared.results.Applied.TheVariants as applied
use Rattle.cf_core_store.specs.Values.{of_value}
use Rattle.cf_core_run.specs.Going.{full}
use Rattle.cf_core.specs.Store.{Nothing}
use Rattle.cf_core_run.specs.declared.mark.TestMark.TheVariants as test
use Rattle.std.proofs.Common.{Option, None, ap, arith, ◌∙◌}
use Rattle.cf_core.specs.Calls.{Returns}
use Rattle.cf_core.specs.Core as nodes
use Rattle.cf_core.specs.Run.{gives}
use Rattle.cf_run_tree.specs.declared.node.Node.{Node}
use Rattle.cf_run_tree.specs.Tree.{core_of}
use Rattle.cf_core_objects.specs.Then.{◌▷◌}
use Rattle.cf_core_run.specs.Going.{valued, performed, maybe_core, go_test}
use Rattle.cf_core_objects.specs.Store.{state_of}
use Rattle.cf_core_run.proofs.Laws.{flow-as}
use Rattle.cf_core_run.proofs.StatementLaws.{return-goes}
use Rattle.cf_core_run.proofs.state.Machine.give.Goals as goal

pub returns-in-None-clause-comes : goal.returns-in-None-clause-comes
returns-in-None-clause-comes c = λ p. flow-as p c.args.self.now (λ T. performed T p c.args.self.now.fuel (nodes.give (maybe_core T p c.args.value.now))) (λ T. gives (Returns Nothing)) c.ends.result c.ends.new.self (c.ends.ensures.comes p)
    (λ T w. ap (λ (x : Option Node). performed T p c.args.self.now.fuel (nodes.give (maybe_core T p x)) (state_of T c.args.self.now.entered c.args.self.now.objects) w) c.in-None.is)

pub returns-in-Some-clause-comes : goal.returns-in-Some-clause-comes
returns-in-Some-clause-comes c = λ p. flow-as p c.args.self.now (λ T. performed T p c.args.self.now.fuel (nodes.give (maybe_core T p c.args.value.now))) (λ T s w. full T p c.args.self.now.fuel (valued T p c.args.self.now.fuel (core_of T p c.in-Some.e) None >>= of_value T applied.Used) s w ▷ go_test T p c.args.self.now.fuel test.Result) c.test_by.result c.test_by.new.self (c.test_by.ensures.comes p)
    (λ T w. return-goes T p c.args.self.now.fuel c.args.self.now.entered c.args.self.now.objects c.args.value.now c.in-Some.e w c.in-Some.is)

pub returns-in-None-clause-within : goal.returns-in-None-clause-within
returns-in-None-clause-within c = λ p. omega (arith, c.ends.ensures.within p)

pub returns-in-Some-clause-within : goal.returns-in-Some-clause-within
returns-in-Some-clause-within c = λ p. omega (arith, c.test_by.ensures.within p, ap maybe_weight c.in-Some.is ∙ maybe-some c.in-Some.e)
