use Rattle.std.proofs.Common.{Some}
use Rattle.cf_core.specs.Calls.{root}
use Rattle.cf_core.specs.Run.{declared_object}
use Rattle.cf_run_tree.specs.Tree.{core_of, shape_type}
use Rattle.cf_core_objects.specs.Store.{state_of}
use Rattle.cf_core_objects.specs.Then.{◌▷◌}
use Rattle.cf_core_run.specs.Going.{valued, go_argument}
use Rattle.cf_core_run.proofs.Laws.{value-as, value-err, value-ok}
use Rattle.cf_core_run.proofs.CallLaws.{pass_rest, pass-goes}
use Rattle.cf_core_run.proofs.state.Machine.pass_next.Goals as goal

pub returns-in-Err-clause-comes : goal.returns-in-Err-clause-comes
returns-in-Err-clause-comes c = λ p. value-err p c.args.self.now (λ o. o) c.new_object.result c.in-Err.stop (λ T. declared_object (shape_type T c.args.shape)) (λ T. pass_rest T p c.args.self.now.fuel c.args.left c.args.first.now)
    (λ T. state_of T c.args.self.now.entered c.new_object.new.objects) c.in-Err.is (λ T w. c.new_object.ensures T c.args.self.now.entered w)

pub returns-clause-comes : goal.returns-clause-comes
returns-clause-comes c = λ p. value-ok p c.args.self.now c.args.self.now.entered c.new_object.new.objects (λ o. o) c.new_object.result c.in-Ok.object (λ T. declared_object (shape_type T c.args.shape)) (λ T. pass_rest T p c.args.self.now.fuel c.args.left c.args.first.now)
    c.pass_in.result c.pass_in.new.self c.in-Ok.is (λ T w. c.new_object.ensures T c.args.self.now.entered w)
    (value-as p (record c.args.self.now { objects = c.new_object.new.objects }) (λ T. pass_rest T p c.args.self.now.fuel c.args.left c.args.first.now c.in-Ok.object) (λ T s w. valued T p c.args.self.now.fuel (core_of T p c.args.first.now) (Some (root c.in-Ok.object)) s w ▷ go_argument T p c.args.self.now.fuel c.args.left c.in-Ok.object)
    c.pass_in.result c.pass_in.new.self (c.pass_in.ensures.comes p) (λ T s w. pass-goes T p c.args.self.now.fuel c.args.left c.args.first.now c.in-Ok.object s w))
