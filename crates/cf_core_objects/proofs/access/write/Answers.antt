use Rattle.std.proofs.Common.{◌∙◌, sym, subst}
use Rattle.cf_base.specs.World.{Ran}
use Rattle.cf_core.specs.Access.{first_value}
use Rattle.cf_core.specs.Run.{Did}
use Rattle.cf_core_place.specs.Routes.{place_of}
use Rattle.cf_core_objects.specs.Acts.{writable}
use Rattle.cf_core_objects.specs.Answer.{Told, Stopped}
use Rattle.cf_core_objects.specs.Log.{value_of}
use Rattle.cf_core_objects.specs.Store.{state_of}
use Rattle.cf_core_objects.proofs.AccessLaws.{write-as, err-then, ok-then}
use Rattle.cf_core_objects.proofs.access.write.Goals as goal

pub returns-in-Err : goal.returns-in-Err
returns-in-Err c = λ T e w.
    let s = state_of T e c.args.objects.now in
    let p = place_of c.args.place in
    subst (λ (r : Ran (Did (Unit {0}))). Stopped c.in-Err.stop w r) (sym (write-as p s w c.site_at-site.result (value_of c.args.value) (c.site_at-site.ensures.site T)))
    (err-then (λ u. tt) c.writable.result c.in-Err.stop s s w (writable c.site_at-site.result) (λ _. first_value p (value_of c.args.value)) c.in-Err.is (c.writable.ensures s w))

pub returns-in-Ok : goal.returns-in-Ok
returns-in-Ok c = λ T e w.
    let s = state_of T e c.args.objects.now in
    let p = place_of c.args.place in
    subst (λ (r : Ran (Did (Unit {0}))). Told (λ u. tt) c.first_value.result (state_of T e c.first_value.new.objects) w r)
    (sym (write-as p s w c.site_at-site.result (value_of c.args.value) (c.site_at-site.ensures.site T)
    ∙ ok-then (λ u. tt) c.writable.result tt s s w (writable c.site_at-site.result) (λ _. first_value p (value_of c.args.value)) c.in-Ok.is (c.writable.ensures s w)))
    (c.first_value.ensures T e w)
