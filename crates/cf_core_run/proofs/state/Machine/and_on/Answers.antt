use Rattle.std.proofs.Common.{◌∙◌, None, ap, false, arith}
use Rattle.cf_core.specs.Pointers.{truth_value}
use Rattle.cf_core.specs.Run.{gives, when}
use Rattle.cf_core.specs.Scalars.{truth_of}
use Rattle.cf_run_tree.specs.Tree.{core_of}
use Rattle.cf_core_run.specs.Going.{valued, truth_by}
use Rattle.cf_core_objects.proofs.ThenLaws.{then-assoc}
use Rattle.cf_core_run.proofs.Laws.{value-as}
use Rattle.cf_core_run.proofs.state.Machine.and_on.Goals as goal

pub returns-then-holds-clause-comes : goal.returns-then-holds-clause-comes
returns-then-holds-clause-comes c = λ p. value-as p c.args.self.now (λ T. when c.args.holds (truth_by T p c.args.self.now.fuel c.args.b.now) (gives (truth_value false))) _ c.down.result c.down.new.self (c.down.ensures.comes p)
    (λ T s w. ap (λ h. when h (truth_by T p c.args.self.now.fuel c.args.b.now) (gives (truth_value false)) s w) c.if-holds.true ∙ then-assoc (valued T p c.args.self.now.fuel (core_of T p c.args.b.now) None s w) truth_of _)

pub returns-else-holds-clause-comes : goal.returns-else-holds-clause-comes
returns-else-holds-clause-comes c = λ p. value-as p c.args.self.now (λ T. when c.args.holds (truth_by T p c.args.self.now.fuel c.args.b.now) (gives (truth_value false))) _ c.gives_truth.result c.gives_truth.new.self (c.gives_truth.ensures.comes p) (λ T s w. ap (λ h. when h (truth_by T p c.args.self.now.fuel c.args.b.now) (gives (truth_value false)) s w) c.if-holds.false)

pub returns-then-holds-clause-within : goal.returns-then-holds-clause-within
returns-then-holds-clause-within c = λ p. omega (arith, c.down.ensures.within p)

pub returns-else-holds-clause-within : goal.returns-else-holds-clause-within
returns-else-holds-clause-within c = λ p. omega (arith, c.gives_truth.ensures.within p)
