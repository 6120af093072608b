use Rattle.cf_core_run.proofs.NearLaws.{weights-first}
use Rattle.cf_core_run.specs.Nearer.{weights}
use Rattle.std.proofs.Common.{◌∙◌, ◌∷◌, List, None, ap, sym, arith}
use Rattle.cf_run_tree.specs.Tree.{core_of}
use Rattle.cf_core_objects.specs.Then.{◌▷◌}
use Rattle.cf_core_run.specs.Going.{valued}
use Rattle.cf_core_objects.specs.Store.{state_of}
use Rattle.cf_core_run.proofs.Laws.{value-as, value-stopped}
use Rattle.cf_run_tree.specs.declared.node.Node.{Node}
use Rattle.cf_core_objects.specs.declared.answer.Stop.TheVariants as stop
use Rattle.cf_core_run.specs.Going.{last_of}
use Rattle.cf_core_run.proofs.Laws.{nil}
use Rattle.cf_core_run.proofs.state.Machine.comma.Goals as goal

pub returns-in-None-clause-comes : goal.returns-in-None-clause-comes
returns-in-None-clause-comes c = λ p. value-stopped p c.args.self.now (λ T. last_of T p c.args.self.now.fuel c.args.all.now) stop.Malformed
    (λ T w. ap (λ (l : List Node). last_of T p c.args.self.now.fuel l (state_of T c.args.self.now.entered c.args.self.now.objects) w) (nil c.args.all.now c.in-None.ensures.cases))

pub returns-in-None-split_first-clause-comes : goal.returns-in-None-split_first-clause-comes
returns-in-None-split_first-clause-comes c = λ p. value-as p c.args.self.now (λ T. last_of T p c.args.self.now.fuel c.args.all.now) _ c.evaluate.result c.evaluate.new.self (c.evaluate.ensures.comes p)
    (λ T s w. ap (λ (l : List Node). last_of T p c.args.self.now.fuel l s w) (c.in-Some.ensures.cases.0 ∙ ap (λ l. c.in-Some.first.now ∷ l) (nil c.in-Some.rest.now c.in-None-split_first.ensures.cases)))

pub returns-in-Some-split_first-clause-comes : goal.returns-in-Some-split_first-clause-comes
returns-in-Some-split_first-clause-comes c = λ p. value-as p c.args.self.now (λ T. last_of T p c.args.self.now.fuel c.args.all.now) _ c.comma_rest.result c.comma_rest.new.self (c.comma_rest.ensures.comes p)
    (λ T s w. ap (λ (l : List Node). last_of T p c.args.self.now.fuel l s w) (c.in-Some.ensures.cases.0 ∙ ap (λ l. c.in-Some.first.now ∷ l) c.in-Some-split_first.ensures.cases.0)
    ∙ ap (λ (l : List Node). (valued T p c.args.self.now.fuel (core_of T p c.in-Some.first.now) None s w ▷ (λ v. last_of T p c.args.self.now.fuel l))) (sym c.in-Some-split_first.ensures.cases.0))

pub returns-in-None-split_first-clause-within : goal.returns-in-None-split_first-clause-within
returns-in-None-split_first-clause-within c = λ p. omega (arith, c.evaluate.ensures.within p, ap weights c.in-Some.ensures.cases.0 ∙ weights-first c.in-Some.first.now c.in-Some.rest.now)

pub returns-in-Some-split_first-clause-within : goal.returns-in-Some-split_first-clause-within
returns-in-Some-split_first-clause-within c = λ p. omega (arith, c.comma_rest.ensures.within p, ap weights c.in-Some.ensures.cases.0 ∙ weights-first c.in-Some.first.now c.in-Some.rest.now)
