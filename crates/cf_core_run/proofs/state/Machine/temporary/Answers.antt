use Rattle.std.proofs.Common.{Some}
use Rattle.cf_core.specs.Calls.{root}
use Rattle.cf_core.specs.Run.{declared_object}
use Rattle.cf_run_tree.specs.Tree.{core_of, shape_type}
use Rattle.cf_core_objects.specs.Store.{state_of}
use Rattle.cf_core_objects.specs.Then.{◌▷◌}
use Rattle.cf_core_run.specs.Going.{valued, go_temporary}
use Rattle.cf_core_run.proofs.Laws.{value-as, value-err, value-ok}
use Rattle.cf_core_run.proofs.TemporaryLaws.{make_rest, make-goes}
use Rattle.cf_core_run.proofs.state.Machine.temporary.Goals as goal

pub returns-in-Err-clause-comes : goal.returns-in-Err-clause-comes
returns-in-Err-clause-comes c = λ p into. value-err p c.args.self.now (λ o. o) c.new_object.result c.in-Err.stop (λ T. declared_object (shape_type T c.args.shape)) (λ T. make_rest T p c.args.self.now.fuel (core_of T p c.args.start.now))
    (λ T. state_of T c.args.self.now.entered c.new_object.new.objects) c.in-Err.is (λ T w. c.new_object.ensures T c.args.self.now.entered w)

pub returns-in-Ok-clause-comes : goal.returns-in-Ok-clause-comes
returns-in-Ok-clause-comes c = λ p into. value-ok p c.args.self.now c.args.self.now.entered c.new_object.new.objects (λ o. o) c.new_object.result c.in-Ok.object (λ T. declared_object (shape_type T c.args.shape)) (λ T. make_rest T p c.args.self.now.fuel (core_of T p c.args.start.now))
    c.make.result c.make.new.self c.in-Ok.is (λ T w. c.new_object.ensures T c.args.self.now.entered w)
    (value-as p (record c.args.self.now { objects = c.new_object.new.objects }) (λ T. make_rest T p c.args.self.now.fuel (core_of T p c.args.start.now) c.in-Ok.object) (λ T s w. valued T p c.args.self.now.fuel (core_of T p c.args.start.now) (Some (root c.in-Ok.object)) s w ▷ go_temporary T p c.args.self.now.fuel c.in-Ok.object)
    c.make.result c.make.new.self (c.make.ensures.comes p) (λ T s w. make-goes T p c.args.self.now.fuel (core_of T p c.args.start.now) c.in-Ok.object s w))
