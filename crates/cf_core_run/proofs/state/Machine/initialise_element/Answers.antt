use Rattle.std.proofs.Common.{◌+◌, [], Some, refl, arith}
use Rattle.cf_core.specs.Objects.{settled}
use Rattle.cf_core.specs.Run.{◌>>◌}
use Rattle.cf_run_tree.specs.Tree.{core_of}
use Rattle.cf_core_place.specs.Routes.{goal_place}
use Rattle.cf_core_run.specs.Going.{valued, full, listing, listing_with}
use Rattle.cf_core_run.proofs.Laws.{value-as}
use Rattle.cf_core_run.proofs.ListLaws.{element-goes}
use Rattle.cf_core_run.proofs.state.Machine.initialise_element.Goals as goal

pub returns-clause-comes : goal.returns-clause-comes
returns-clause-comes c = λ p. value-as p c.args.self.now (λ T. listing_with T p c.args.self.now.fuel c.args.others c.args.e.now)
    (λ T. full T p c.args.self.now.fuel (settled [] (goal_place c.element-goal.result) (valued T p c.args.self.now.fuel (core_of T p c.args.e.now) (Some (goal_place c.element-goal.result)))) >> listing T p c.args.self.now.fuel (record c.args.others { index = c.args.others.index + 1 }))
    c.open_element.result c.open_element.new.self (c.open_element.ensures.comes p)
    (λ T s w. element-goes T p c.args.self.now.fuel c.args.others (c.args.others.index + 1) c.element-goal.result c.args.e.now s w c.element-goal.ensures refl)

pub returns-clause-within : goal.returns-clause-within
returns-clause-within c = λ p. omega (arith, c.open_element.ensures.within p)
