use Rattle.std.proofs.Common.{◌≡◌, ◌∙◌, ap, sym, subst, rules, true}
use Rattle.cf_base.specs.World.{Ran}
use Rattle.cf_core.specs.Access.{used, first_value}
use Rattle.cf_core.specs.Run.{Did, ◌>>=◌, malformed, when}
use Rattle.cf_core_place.specs.Routes.{place_of}
use Rattle.cf_core_objects.specs.Answer.{Told, Stopped}
use Rattle.cf_core_objects.specs.Log.{value_of}
use Rattle.cf_core_objects.specs.Site.{scalar_sort}
use Rattle.cf_core_objects.specs.Store.{state_of}
use Rattle.cf_core_objects.proofs.AccessLaws.{settle-as, err-then, ok-then}
use Rattle.cf_core_objects.proofs.access.settle_value.Goals as goal

pub returns-in-Err : goal.returns-in-Err
returns-in-Err c = λ T e w.
    let s = state_of T e c.args.objects.now in
    let p = place_of c.args.place in
    let v = value_of c.args.value in
    let holds : c.is_scalar.result ≡ true = search rules in
    let is : scalar_sort c.site_at-site.result.sort ≡ true = sym c.is_scalar.ensures ∙ holds in
    subst (λ (r : Ran (Did (Unit {0}))). Stopped c.in-Err.stop w r)
    (sym (settle-as p s w c.site_at-site.result v (c.site_at-site.ensures.site T) ∙ ap (λ b. when b (used v >>= first_value p) malformed s w) is))
    (err-then value_of c.used.result c.in-Err.stop s s w (used v) (first_value p) c.in-Err.is (c.used.ensures s w))

pub returns-in-Ok : goal.returns-in-Ok
returns-in-Ok c = λ T e w.
    let s = state_of T e c.args.objects.now in
    let p = place_of c.args.place in
    let v = value_of c.args.value in
    let holds : c.is_scalar.result ≡ true = search rules in
    let is : scalar_sort c.site_at-site.result.sort ≡ true = sym c.is_scalar.ensures ∙ holds in
    subst (λ (r : Ran (Did (Unit {0}))). Told (λ u. tt) c.first_value.result (state_of T e c.first_value.new.objects) w r)
    (sym (settle-as p s w c.site_at-site.result v (c.site_at-site.ensures.site T) ∙ ap (λ b. when b (used v >>= first_value p) malformed s w) is
    ∙ ok-then value_of c.used.result c.in-Ok.first s s w (used v) (first_value p) c.in-Ok.is (c.used.ensures s w)))
    (c.first_value.ensures T e w)
