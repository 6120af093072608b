use Rattle.std.proofs.Common.{◌≡◌, Some, None, ap, reverse, length, true, false, rules}
use Rattle.std.specs.Prelude.{nat_eq}
use Rattle.cf_core.specs.Calls as calls
use Rattle.cf_run_tree.specs.Tree.{function_of}
use Rattle.cf_core_objects.specs.Store.{state_of}
use Rattle.cf_core_objects.specs.declared.answer.Stop.TheVariants as stop
use Rattle.cf_core_run.specs.Going.{again, on_value, finish, world_of}
use Rattle.cf_core_run.proofs.Laws.{value-stopped}
use Rattle.cf_core_run.proofs.CallLaws.{entered-as, entered-wrong}
use Rattle.cf_core_run.proofs.state.Machine.enter_on.Goals as goal

pub returns-then-as_many-clause-comes : goal.returns-then-as_many-clause-comes
returns-then-as_many-clause-comes c = λ p. record {
  same = λ T o. ap (λ r. finish T p o (on_value T p (reverse c.args.self.now.stack.items) r))
      (entered-as T p c.args.self.now.fuel c.args.f.now c.args.made.items (state_of T c.args.self.now.entered c.args.self.now.objects) (world_of c.args.self.now.ticks o)
      (let h : nat_eq (length c.args.made.items) (length c.args.f.now.signature.params) ≡ true = search rules in h));
}

pub returns-clause-comes : goal.returns-clause-comes
returns-clause-comes c = λ p. value-stopped p c.args.self.now (λ T. calls.enter_found (again T p c.args.self.now.fuel) (Some (function_of T p c.args.f.now)) c.args.made.items None None) stop.Malformed
    (λ T w. entered-wrong T p c.args.self.now.fuel c.args.f.now c.args.made.items (state_of T c.args.self.now.entered c.args.self.now.objects) w
    (let h : nat_eq (length c.args.made.items) (length c.args.f.now.signature.params) ≡ false = search rules in h))
