use Rattle.std.proofs.Common.{refl, ap, reverse}
use Rattle.cf_core_objects.specs.Store.{state_of, value_of}
use Rattle.cf_core_run.specs.Going.{on_value, finish, world_of}
use Rattle.cf_core_run.proofs.CallLaws.{start-goes}
use Rattle.cf_core_run.proofs.state.Machine.start_call.Goals as goal

pub returns-clause-comes : goal.returns-clause-comes
returns-clause-comes c = λ p into. record {
  same = λ T o. ap (λ r. finish T p o (on_value T p (reverse c.args.self.now.stack.items) r))
      (start-goes T p c.args.self.now.fuel (value_of c.args.callee) c.args.signature.now c.args.all.now into (record { callee = c.args.callee; params = c.as_slice.result; rest = c.args.all; made = c.new.result }) (state_of T c.args.self.now.entered c.args.self.now.objects) (world_of c.args.self.now.ticks o)
      refl c.as_slice.ensures refl c.new.ensures.items);
}
