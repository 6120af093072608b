use Rattle.std.proofs.Common.{[], sym, subst}
use Rattle.cf_core.specs.Scalars as scalars
use Rattle.cf_core_objects.specs.declared.answer.Value.{Value as Given}
use Rattle.cf_core_objects.specs.Answer.{Told}
use Rattle.cf_core_objects.specs.Store.{state_of, value_of}
use Rattle.cf_core_store.proofs.moving.decayed.Goals as goal

pub returns-in-At : goal.returns-in-At
returns-in-At c = λ T e w.
    subst (λ (x : Given). Told value_of c.decayed_place.result (state_of T e c.args.objects.now) w (scalars.decayed [] (value_of x) (state_of T e c.args.objects.now) w)) (sym c.in-At.is) (c.decayed_place.ensures T e w)
