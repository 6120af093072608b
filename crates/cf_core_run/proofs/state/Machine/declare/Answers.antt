use Rattle.std.proofs.Common.{[], Some, Err}
use Rattle.cf_core.specs.Calls.{root}
use Rattle.cf_core.specs.Core as nodes
use Rattle.cf_core.specs.Objects.{new_local, settled}
use Rattle.cf_core.specs.Run.{◌>>=◌, ◌>>◌}
use Rattle.cf_run_tree.specs.Tree.{core_of, object_type}
use Rattle.cf_core_run.specs.Going.{valued, full, performed, go_declared}
use Rattle.cf_core_objects.specs.Store.{state_of}
use Rattle.cf_core_run.proofs.Laws.{flow-as, flow-err, flow-ok}
use Rattle.cf_core_run.proofs.StatementLaws.{declare_rest, declare-goes, declare-first}
use Rattle.cf_core_run.proofs.state.Machine.declare.Goals as goal

pub returns-in-Err-clause-comes : goal.returns-in-Err-clause-comes
returns-in-Err-clause-comes c = λ p. flow-as p c.args.self.now (λ T. performed T p c.args.self.now.fuel (nodes.declare c.args.number (object_type T c.args.ty.now) (core_of T p c.args.start.now)))
    (λ T. new_local c.args.number (object_type T c.args.ty.now) >>= declare_rest T p c.args.self.now.fuel (core_of T p c.args.start.now)) (Err c.in-Err.stop) c.args.self.now
    (flow-err p c.args.self.now (λ o. o) c.new_local.result c.in-Err.stop (λ T. new_local c.args.number (object_type T c.args.ty.now)) (λ T. declare_rest T p c.args.self.now.fuel (core_of T p c.args.start.now)) (λ T. state_of T c.new_local.new.entered c.new_local.new.objects) c.in-Err.is c.new_local.ensures)
    (λ T w. declare-first T p c.args.self.now.fuel c.args.number (object_type T c.args.ty.now) (core_of T p c.args.start.now) (state_of T c.args.self.now.entered c.args.self.now.objects) w)

pub returns-in-Ok-clause-comes : goal.returns-in-Ok-clause-comes
returns-in-Ok-clause-comes c = λ p. flow-as p c.args.self.now (λ T. performed T p c.args.self.now.fuel (nodes.declare c.args.number (object_type T c.args.ty.now) (core_of T p c.args.start.now)))
    (λ T. new_local c.args.number (object_type T c.args.ty.now) >>= declare_rest T p c.args.self.now.fuel (core_of T p c.args.start.now)) c.initialise.result c.initialise.new.self
    (flow-ok p c.args.self.now c.new_local.new.entered c.new_local.new.objects (λ o. o) c.new_local.result c.in-Ok.object (λ T. new_local c.args.number (object_type T c.args.ty.now)) (λ T. declare_rest T p c.args.self.now.fuel (core_of T p c.args.start.now)) c.initialise.result c.initialise.new.self c.in-Ok.is c.new_local.ensures
    (flow-as p (record c.args.self.now { entered = c.new_local.new.entered; objects = c.new_local.new.objects }) (λ T. declare_rest T p c.args.self.now.fuel (core_of T p c.args.start.now) c.in-Ok.object) (λ T. full T p c.args.self.now.fuel (settled [] (root c.in-Ok.object) (valued T p c.args.self.now.fuel (core_of T p c.args.start.now) (Some (root c.in-Ok.object)))) >> go_declared T p c.args.self.now.fuel c.in-Ok.object) c.initialise.result c.initialise.new.self (c.initialise.ensures.comes p)
    (λ T w. declare-goes T p c.args.self.now.fuel c.new_local.new.entered c.new_local.new.objects (core_of T p c.args.start.now) c.in-Ok.object w)))
    (λ T w. declare-first T p c.args.self.now.fuel c.args.number (object_type T c.args.ty.now) (core_of T p c.args.start.now) (state_of T c.args.self.now.entered c.args.self.now.objects) w)
