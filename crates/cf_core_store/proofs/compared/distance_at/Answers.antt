use Rattle.std.proofs.Common.{sym, subst}
use Rattle.cf_base.specs.World.{Ran}
use Rattle.cf_core.specs.Run.{Did}
use Rattle.cf_core.specs.Store.{Value}
use Rattle.cf_core_place.specs.Routes.{place_of}
use Rattle.cf_core_objects.specs.Answer.{Told}
use Rattle.cf_core_objects.specs.Store.{state_of, value_of}
use Rattle.cf_core_store.proofs.StoreLaws.{distance-as}
use Rattle.cf_core_store.proofs.compared.distance_at.Goals as goal

pub returns : goal.returns
returns c = λ T e w.
    subst (λ (r : Ran (Did Value)). Told value_of c.distance.result (state_of T e c.args.objects.now) w r)
    (sym (distance-as (state_of T e c.args.objects.now) (place_of c.args.p) (place_of c.args.q) c.both_at.result w (c.both_at.ensures T e))) (c.distance.ensures (state_of T e c.args.objects.now) w)
