use Rattle.std.proofs.Common.{sym, subst}
use Rattle.cf_core.specs.Pointers as pointers
use Rattle.cf_core_objects.specs.declared.answer.Value.{Value as Given}
use Rattle.cf_core_objects.specs.Answer.{Told}
use Rattle.cf_core_objects.specs.Store.{state_of, value_of}
use Rattle.cf_core_objects.specs.declared.answer.Value.TheVariants as given
use Rattle.cf_core_store.proofs.compared.difference.Goals as goal

pub returns-in-At-y : goal.returns-in-At-y
returns-in-At-y c = λ T e w.
    subst (λ (x : Given). Told value_of c.distance_at.result (state_of T e c.args.objects.now) w (pointers.difference_of (value_of x) (value_of c.args.y) (state_of T e c.args.objects.now) w)) (sym c.in-At.is)
    (subst (λ (y : Given). Told value_of c.distance_at.result (state_of T e c.args.objects.now) w (pointers.difference_of (value_of (given.At c.in-At.p)) (value_of y) (state_of T e c.args.objects.now) w)) (sym c.in-At-y.is) (c.distance_at.ensures T e w))
