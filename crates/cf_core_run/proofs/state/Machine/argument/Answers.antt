use Rattle.std.proofs.Common.{◌++◌, ◌∷◌, [], Ok, ap, map, reverse}
use Rattle.cf_core.specs.Calls.{root}
use Rattle.cf_core.specs.Expressions.{arguments}
use Rattle.cf_core.specs.Objects.{settle}
use Rattle.cf_core.specs.Run.{◌>>=◌}
use Rattle.cf_run_tree.specs.Tree.{shape_type, program_of}
use Rattle.cf_core_objects.specs.Store.{state_of, value_of}
use Rattle.cf_core_run.specs.declared.mark.Doing.TheVariants as doing
use Rattle.cf_core_run.specs.declared.state.Step.TheVariants as step
use Rattle.cf_core_run.specs.Going.{on_value, finish, world_of, again, cores, called}
use Rattle.cf_core_run.proofs.Laws.{value-err, value-ok}
use Rattle.cf_core_run.proofs.CallLaws.{argument-passes}
use Rattle.cf_core_run.proofs.state.Machine.argument.Goals as goal

pub returns-in-Err-clause-comes : goal.returns-in-Err-clause-comes
returns-in-Err-clause-comes c = λ p. value-err p c.args.self.now (λ u. tt) c.settle_object.result c.in-Err.stop (λ T. settle [] (root c.args.object) (value_of c.args.v))
    (λ T u. arguments (again T p c.args.self.now.fuel) (program_of T p) (map (shape_type T) c.args.calling.params.now) (cores T p c.args.calling.rest.now)
    >>= (λ os. called T p c.args.self.now.fuel (value_of c.args.calling.callee) (c.args.calling.made.items ++ c.args.object ∷ os)))
    (λ T. state_of T c.args.self.now.entered c.settle_object.new.objects) c.in-Err.is (λ T w. c.settle_object.ensures T c.args.self.now.entered w)

pub returns-clause-comes : goal.returns-clause-comes
returns-clause-comes c = λ p. value-ok p c.args.self.now c.args.self.now.entered c.settle_object.new.objects (λ u. tt) c.settle_object.result tt (λ T. settle [] (root c.args.object) (value_of c.args.v))
    (λ T u. arguments (again T p c.args.self.now.fuel) (program_of T p) (map (shape_type T) c.args.calling.params.now) (cores T p c.args.calling.rest.now)
    >>= (λ os. called T p c.args.self.now.fuel (value_of c.args.calling.callee) (c.args.calling.made.items ++ c.args.object ∷ os)))
    (Ok step.On) (record c.args.self.now { objects = c.settle_object.new.objects; doing = doing.Passes (record c.args.calling { made = c.push.new.self }) }) c.in-Ok.is (λ T w. c.settle_object.ensures T c.args.self.now.entered w)
    (record {
      same = λ T o. ap (λ r. finish T p o (on_value T p (reverse c.args.self.now.stack.items) r))
          (argument-passes T p c.args.self.now.fuel c.args.calling c.push.new.self c.args.object (state_of T c.args.self.now.entered c.settle_object.new.objects) (world_of c.args.self.now.ticks o) c.in_ok-push-in-Ok.ensures.items);
    })
