use Rattle.std.proofs.Common.{subst}
use Rattle.cf_base.specs.World.{Ran}
use Rattle.cf_core.specs.Run.{Did}
use Rattle.cf_core_place.specs.Routes.{place_of}
use Rattle.cf_core_objects.specs.Answer.{Told}
use Rattle.cf_core_objects.specs.Store.{state_of}
use Rattle.cf_core_objects.proofs.AccessLaws.{settle-not-built}
use Rattle.cf_core_objects.proofs.access.settle.Goals as goal

pub returns-in_default : goal.returns-in_default
returns-in_default c = λ T e w.
    subst (λ (x : Ran (Did (Unit {0}))). Told (λ u. tt) c.settle_value.result (state_of T e c.settle_value.new.objects) w x)
    (settle-not-built c.args.value c.in_default.not-Built (place_of c.args.place) (state_of T e c.args.objects.now) w) (c.settle_value.ensures T e w)
