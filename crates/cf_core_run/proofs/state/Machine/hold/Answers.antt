use Rattle.cf_core.specs.Objects.{new_local}
use Rattle.cf_core.specs.Calls.{root}
use Rattle.std.proofs.Common.{Some}
use Rattle.cf_run_tree.specs.Tree.{core_of, shape_type}
use Rattle.cf_core_objects.specs.Store.{state_of}
use Rattle.cf_core_objects.specs.Then.{◌▷◌}
use Rattle.cf_core_run.specs.Going.{valued, go_held}
use Rattle.cf_core_run.proofs.Laws.{value-as, value-err, value-ok}
use Rattle.cf_core_run.proofs.TemporaryLaws.{hold_rest, hold-goes}
use Rattle.cf_core_run.proofs.state.Machine.hold.Goals as goal

pub returns-in-Err-clause-comes : goal.returns-in-Err-clause-comes
returns-in-Err-clause-comes c = λ p into. value-err p c.args.self.now (λ o. o) c.new_scalar.result c.in-Err.stop (λ T. new_local c.args.number (shape_type T c.args.shape)) (λ T. hold_rest T p c.args.self.now.fuel (core_of T p c.args.start.now))
    (λ T. state_of T c.new_scalar.new.entered c.new_scalar.new.objects) c.in-Err.is c.new_scalar.ensures

pub returns-in-Ok-clause-comes : goal.returns-in-Ok-clause-comes
returns-in-Ok-clause-comes c = λ p into. value-ok p c.args.self.now c.new_scalar.new.entered c.new_scalar.new.objects (λ o. o) c.new_scalar.result c.in-Ok.object (λ T. new_local c.args.number (shape_type T c.args.shape)) (λ T. hold_rest T p c.args.self.now.fuel (core_of T p c.args.start.now))
    c.hold_in.result c.hold_in.new.self c.in-Ok.is c.new_scalar.ensures
    (value-as p (record c.args.self.now { entered = c.new_scalar.new.entered; objects = c.new_scalar.new.objects }) (λ T. hold_rest T p c.args.self.now.fuel (core_of T p c.args.start.now) c.in-Ok.object) (λ T s w. valued T p c.args.self.now.fuel (core_of T p c.args.start.now) (Some (root c.in-Ok.object)) s w ▷ go_held T p c.args.self.now.fuel c.in-Ok.object)
    c.hold_in.result c.hold_in.new.self (c.hold_in.ensures.comes p) (λ T s w. hold-goes T p c.args.self.now.fuel (core_of T p c.args.start.now) c.in-Ok.object s w))
