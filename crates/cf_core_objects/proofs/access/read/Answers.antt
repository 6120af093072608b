use Rattle.std.proofs.Common.{◌∙◌, [], refl, ap, sym, subst, option_map}
use Rattle.cf_base.specs.World.{Ran}
use Rattle.cf_core.specs.Places.{type_at}
use Rattle.cf_core.specs.Run.{Did}
use Rattle.cf_core_place.specs.Routes.{place_of}
use Rattle.cf_core_objects.specs.Acts.{readable, value_held}
use Rattle.cf_core_objects.specs.Answer.{Told, Stopped}
use Rattle.cf_core_objects.specs.Log.{value_of}
use Rattle.cf_core_objects.specs.Site.{zero_sort}
use Rattle.cf_core_objects.specs.Store.{state_of}
use Rattle.cf_core_objects.proofs.AccessLaws.{read-as, err-then, ok-then}
use Rattle.cf_core_objects.proofs.SiteLaws.{zero-as}
use Rattle.cf_core_objects.proofs.access.read.Goals as goal

pub returns-in-Err : goal.returns-in-Err
returns-in-Err c = λ T e w.
    let s = state_of T e c.args.objects.now in
    let p = place_of c.args.place in
    let site = c.site_at-site.result in
    subst (λ (r : Ran (Did _)). Stopped c.in-Err.stop w r)
    (sym (read-as p s w site ((s.object p.object).held p.route) (c.site_at-site.ensures.site T) refl))
    (err-then (λ u. tt) c.readable.result c.in-Err.stop s s w (readable site) (λ _. value_held ((s.object p.object).held p.route)) c.in-Err.is (c.readable.ensures s w))

pub returns-in-Ok : goal.returns-in-Ok
returns-in-Ok c = λ T e w.
    let s = state_of T e c.args.objects.now in
    let p = place_of c.args.place in
    let site = c.site_at-site.result in
    let here = c.site_at-site.ensures.site T in
    let v = option_map value_of c.held_at.result in
    subst (λ (r : Ran (Did _)). Told value_of c.value_held.result s w r)
    (sym (read-as p s w site v here (c.held_at.ensures T (zero-as (type_at [] (s.object p.object).type p.route) ∙ ap zero_sort here.sort))
    ∙ ok-then (λ u. tt) c.readable.result tt s s w (readable site) (λ _. value_held v) c.in-Ok.is (c.readable.ensures s w)))
    (c.value_held.ensures s w)
