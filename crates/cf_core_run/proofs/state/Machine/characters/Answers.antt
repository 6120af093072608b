use Rattle.std.proofs.Common.{Option, option_map, ap}
use Rattle.cf_core.specs.Core.{string}
use Rattle.cf_core_place.specs.declared.goal.Goal.{Goal}
use Rattle.cf_core_place.specs.Routes.{goal_place}
use Rattle.cf_core_objects.specs.declared.answer.Stop.TheVariants as stop
use Rattle.cf_core_objects.specs.Store.{state_of}
use Rattle.cf_core_run.specs.Going.{valued}
use Rattle.cf_core_run.proofs.Laws.{value-as, value-stopped}
use Rattle.cf_core_run.proofs.state.Machine.characters.Goals as goal

pub returns-in-None-clause-comes : goal.returns-in-None-clause-comes
returns-in-None-clause-comes c = λ p. value-stopped p c.args.self.now (λ T. valued T p c.args.self.now.fuel (string c.args.bytes.now) (option_map goal_place c.args.into)) stop.Malformed
    (λ T w. ap (λ (i : Option Goal). valued T p c.args.self.now.fuel (string c.args.bytes.now) (option_map goal_place i) (state_of T c.args.self.now.entered c.args.self.now.objects) w) c.in-None.is)

pub returns-in-Some-clause-comes : goal.returns-in-Some-clause-comes
returns-in-Some-clause-comes c = λ p. value-as p c.args.self.now (λ T. valued T p c.args.self.now.fuel (string c.args.bytes.now) (option_map goal_place c.args.into)) _
    c.string.result c.string.new.self (c.string.ensures.comes p) (λ T s w. ap (λ (i : Option Goal). valued T p c.args.self.now.fuel (string c.args.bytes.now) (option_map goal_place i) s w) c.in-Some.is)
