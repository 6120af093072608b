use Rattle.std.proofs.Common.{Some, [], ap, sym}
use Rattle.cf_core.specs.Access.{place_type}
use Rattle.cf_core.specs.Core.{string}
use Rattle.cf_core_run.specs.Going.{from_value, valued}
use Rattle.cf_core.specs.Places.{Place}
use Rattle.cf_core_place.specs.Routes.{goal_place, row_place}
use Rattle.cf_core_objects.specs.Store.{state_of}
use Rattle.cf_core_run.proofs.Laws.{comes-by, value-stopped}
use Rattle.cf_core_run.proofs.ListLaws.{string-stops, counted-row, counted-elements}
use Rattle.cf_core_run.proofs.state.Machine.string.Goals as goal

pub returns-in-Err-clause-comes : goal.returns-in-Err-clause-comes
returns-in-Err-clause-comes c = λ p. value-stopped p c.args.self.now (λ T. valued T p c.args.self.now.fuel (string c.args.bytes.now) (Some (goal_place c.args.goal))) c.in-Err.stop
    (λ T w. string-stops T p c.args.self.now.fuel (goal_place c.args.goal) (state_of T c.args.self.now.entered c.args.self.now.objects) w c.args.bytes.now c.args.goal c.elements.result c.in-Err.stop c.in-Err.is (c.elements.ensures T c.args.self.now.entered))

pub string_of-requires : goal.string_of-requires
string_of-requires c = λ T. counted-elements (place_type [] (state_of T c.args.self.now.entered c.args.self.now.objects)) c.args.goal c.in-Ok.array c.elements.result c.in-Ok.is (c.elements.ensures T c.args.self.now.entered)

pub returns-in-Ok-clause-comes : goal.returns-in-Ok-clause-comes
returns-in-Ok-clause-comes c = λ p. comes-by p (λ T o. from_value T p c.args.self.now (valued T p c.args.self.now.fuel (string c.args.bytes.now) (Some (goal_place c.args.goal))) o) (λ T o. from_value T p c.args.self.now (valued T p c.args.self.now.fuel (string c.args.bytes.now) (Some (row_place c.in-Ok.array.row))) o)
    c.string_of.result c.string_of.new.self
    (λ T o. ap (λ (q : Place). from_value T p c.args.self.now (valued T p c.args.self.now.fuel (string c.args.bytes.now) (Some q)) o) (sym (counted-row _ c.args.goal c.in-Ok.array c.elements.result c.in-Ok.is (c.elements.ensures T c.args.self.now.entered))))
    (c.string_of.ensures.comes p)
