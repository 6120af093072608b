use Rattle.std.proofs.Common.{[], subst, reverse}
use Rattle.cf_core.specs.Objects.{settle}
use Rattle.cf_core.specs.Store.{Built}
use Rattle.cf_core_place.specs.Routes.{place_of, goal_place}
use Rattle.cf_core_place.specs.declared.part.Place.{Place as Spot}
use Rattle.cf_core_objects.specs.Answer.{Told}
use Rattle.cf_core_objects.specs.Store.{state_of, value_of}
use Rattle.cf_core_run.specs.Going.{closed}
use Rattle.cf_core_run.proofs.Laws.{value-err, value-ok}
use Rattle.cf_core_run.proofs.state.Machine.close_stored.Goals as goal

pub returns-in-Err-clause-comes : goal.returns-in-Err-clause-comes
returns-in-Err-clause-comes c = λ p. value-err p c.args.self.now (λ u. tt) c.settle.result c.in-Err.stop (λ T. settle [] (goal_place c.args.goal) (value_of c.args.v)) (λ T u. closed T p c.args.self.now.fuel (reverse c.args.around.items) Built)
    (λ T. state_of T c.args.self.now.entered c.settle.new.objects) c.in-Err.is (λ T w. subst (λ (q : Spot). Told (λ u. tt) c.settle.result (state_of T c.args.self.now.entered c.settle.new.objects) w (settle [] (place_of q) (value_of c.args.v) (state_of T c.args.self.now.entered c.args.self.now.objects) w)) c.place.ensures (c.settle.ensures T c.args.self.now.entered w))

pub returns-in-Ok-clause-comes : goal.returns-in-Ok-clause-comes
returns-in-Ok-clause-comes c = λ p. value-ok p c.args.self.now c.args.self.now.entered c.settle.new.objects (λ u. tt) c.settle.result tt (λ T. settle [] (goal_place c.args.goal) (value_of c.args.v)) (λ T u. closed T p c.args.self.now.fuel (reverse c.args.around.items) Built)
    c.close_whole.result c.close_whole.new.self c.in-Ok.is (λ T w. subst (λ (q : Spot). Told (λ u. tt) c.settle.result (state_of T c.args.self.now.entered c.settle.new.objects) w (settle [] (place_of q) (value_of c.args.v) (state_of T c.args.self.now.entered c.args.self.now.objects) w)) c.place.ensures (c.settle.ensures T c.args.self.now.entered w)) (c.close_whole.ensures.comes p)
