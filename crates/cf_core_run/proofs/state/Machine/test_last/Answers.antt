use Rattle.cf_core_run.proofs.NearLaws.{maybe-some}
use Rattle.cf_core_run.specs.Nearer.{maybe_weight}
use Rattle.cf_core_store.specs.declared.results.Applied.TheVariants as applied
use Rattle.cf_core_store.specs.Values.{of_value}
use Rattle.cf_core_run.specs.Going.{go_last}
use Rattle.std.proofs.Common.{◌∙◌, Option, None, ap, false, arith}
use Rattle.cf_core.specs.Calls.{Falls, turn}
use Rattle.cf_core.specs.Run.{◌>>=◌, gives, when}
use Rattle.cf_core.specs.Statements.{holds}
use Rattle.cf_run_tree.specs.declared.node.Node.{Node}
use Rattle.cf_run_tree.specs.Tree.{core_of, program_of}
use Rattle.cf_core_objects.specs.Then.{◌▷◌}
use Rattle.cf_core_run.specs.Going.{from_flow, valued, maybe_core, full, again, loop_of, turned}
use Rattle.cf_core_objects.specs.Store.{state_of}
use Rattle.cf_core_run.proofs.Laws.{flow-as}
use Rattle.cf_core_run.proofs.StatementLaws.{truth-whole}
use Rattle.cf_core_run.proofs.state.Machine.test_last.Goals as goal

pub returns-in-None-clause-comes : goal.returns-in-None-clause-comes
returns-in-None-clause-comes c = λ p. record {
  same = λ T o. ap (λ (x : Option Node). from_flow T p c.args.self.now (holds (again T p c.args.self.now.fuel) (program_of T p) (maybe_core T p x) >>= (λ t. when t (again T p c.args.self.now.fuel (turn (loop_of T p c.args.repeated))) (gives Falls))) o) c.in-None.is;
}

pub returns-in-Some-clause-comes : goal.returns-in-Some-clause-comes
returns-in-Some-clause-comes c = λ p. flow-as p c.args.self.now (λ T. turned T p c.args.self.now.fuel c.args.repeated false) (λ T s w. full T p c.args.self.now.fuel (valued T p c.args.self.now.fuel (core_of T p c.in-Some.e) None >>= of_value T applied.Truth) s w ▷ go_last T p c.args.self.now.fuel c.args.repeated) c.test_by.result c.test_by.new.self (c.test_by.ensures.comes p)
    (λ T w. ap (λ (x : Option Node). (holds (again T p c.args.self.now.fuel) (program_of T p) (maybe_core T p x) >>= (λ t. when t (again T p c.args.self.now.fuel (turn (loop_of T p c.args.repeated))) (gives Falls))) (state_of T c.args.self.now.entered c.args.self.now.objects) w) c.in-Some.is
    ∙ truth-whole T p c.args.self.now.fuel (valued T p c.args.self.now.fuel (core_of T p c.in-Some.e) None) _ (state_of T c.args.self.now.entered c.args.self.now.objects) w)

pub returns-in-Some-clause-within : goal.returns-in-Some-clause-within
returns-in-Some-clause-within c = λ p. omega (arith, c.test_by.ensures.within p, ap maybe_weight c.in-Some.is ∙ maybe-some c.in-Some.e)
