use Rattle.std.proofs.Common.{Option, Some, option_map, ap}
use Rattle.cf_core.specs.Core.{list}
use Rattle.cf_run_tree.specs.Tree.{core_of}
use Rattle.cf_core_place.specs.declared.goal.Goal.{Goal}
use Rattle.cf_core_place.specs.Routes.{goal_place}
use Rattle.cf_core_objects.specs.declared.answer.Stop.TheVariants as stop
use Rattle.cf_core_objects.specs.Store.{state_of}
use Rattle.cf_core_run.specs.Going.{valued, cores}
use Rattle.cf_core_run.proofs.Laws.{value-as, value-stopped}
use Rattle.cf_core_run.proofs.state.Machine.begin_list.Goals as goal

pub returns-in-None-clause-comes : goal.returns-in-None-clause-comes
returns-in-None-clause-comes c = λ p. value-stopped p c.args.self.now (λ T. valued T p c.args.self.now.fuel (list (cores T p c.args.all.now) (core_of T p c.args.filler.now)) (option_map goal_place c.args.into)) stop.Malformed
    (λ T w. ap (λ (i : Option Goal). valued T p c.args.self.now.fuel (list (cores T p c.args.all.now) (core_of T p c.args.filler.now)) (option_map goal_place i) (state_of T c.args.self.now.entered c.args.self.now.objects) w) c.in-None.is)

pub returns-in-Some-clause-comes : goal.returns-in-Some-clause-comes
returns-in-Some-clause-comes c = λ p. value-as p c.args.self.now (λ T. valued T p c.args.self.now.fuel (list (cores T p c.args.all.now) (core_of T p c.args.filler.now)) (option_map goal_place c.args.into)) (λ T. valued T p c.args.self.now.fuel (list (cores T p c.args.all.now) (core_of T p c.args.filler.now)) (Some (goal_place c.in-Some.goal)))
    c.begin_array.result c.begin_array.new.self (c.begin_array.ensures.comes p) (λ T s w. ap (λ (i : Option Goal). valued T p c.args.self.now.fuel (list (cores T p c.args.all.now) (core_of T p c.args.filler.now)) (option_map goal_place i) s w) c.in-Some.is)
