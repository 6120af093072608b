use Rattle.cf_core_store.specs.declared.results.Applied.TheVariants as applied
use Rattle.cf_core_store.specs.Values.{of_value}
use Rattle.cf_core_run.specs.Going.{go_first}
use Rattle.std.proofs.Common.{◌∙◌, Option, None, ap}
use Rattle.cf_core.specs.Calls.{Falls}
use Rattle.cf_core.specs.Run.{◌>>=◌, gives, when}
use Rattle.cf_core.specs.Statements.{holds}
use Rattle.cf_run_tree.specs.declared.node.Node.{Node}
use Rattle.cf_run_tree.specs.Tree.{core_of, program_of}
use Rattle.cf_core_objects.specs.Then.{◌▷◌}
use Rattle.cf_core_run.specs.Going.{valued, maybe_core, full, again, first_turn, body_turn}
use Rattle.cf_core_objects.specs.Store.{state_of}
use Rattle.cf_core_run.proofs.Laws.{flow-as}
use Rattle.cf_core_run.proofs.StatementLaws.{truth-whole}
use Rattle.cf_core_run.proofs.state.Machine.test_first.Goals as goal

pub returns-in-None-clause-comes : goal.returns-in-None-clause-comes
returns-in-None-clause-comes c = λ p. flow-as p c.args.self.now (λ T. first_turn T p c.args.self.now.fuel c.args.repeated) (λ T. body_turn T p c.args.self.now.fuel c.args.repeated) c.open_body.result c.open_body.new.self (c.open_body.ensures.comes p)
    (λ T w. ap (λ (x : Option Node). (holds (again T p c.args.self.now.fuel) (program_of T p) (maybe_core T p x) >>= (λ t. when t (body_turn T p c.args.self.now.fuel c.args.repeated) (gives Falls))) (state_of T c.args.self.now.entered c.args.self.now.objects) w) c.in-None.is)

pub returns-in-Some-clause-comes : goal.returns-in-Some-clause-comes
returns-in-Some-clause-comes c = λ p. flow-as p c.args.self.now (λ T. first_turn T p c.args.self.now.fuel c.args.repeated) (λ T s w. full T p c.args.self.now.fuel (valued T p c.args.self.now.fuel (core_of T p c.in-Some.e) None >>= of_value T applied.Truth) s w ▷ go_first T p c.args.self.now.fuel c.args.repeated) c.test_by.result c.test_by.new.self (c.test_by.ensures.comes p)
    (λ T w. ap (λ (x : Option Node). (holds (again T p c.args.self.now.fuel) (program_of T p) (maybe_core T p x) >>= (λ t. when t (body_turn T p c.args.self.now.fuel c.args.repeated) (gives Falls))) (state_of T c.args.self.now.entered c.args.self.now.objects) w) c.in-Some.is
    ∙ truth-whole T p c.args.self.now.fuel (valued T p c.args.self.now.fuel (core_of T p c.in-Some.e) None) _ (state_of T c.args.self.now.entered c.args.self.now.objects) w)
