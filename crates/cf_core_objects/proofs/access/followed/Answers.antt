use Rattle.std.proofs.Common.{◌∙◌, [], ap, sym, subst}
use Rattle.cf_base.specs.World.{Ran}
use Rattle.cf_core.specs.Access.{read_place, bound_to}
use Rattle.cf_core.specs.Run.{Did, ◌>>=◌, gives, when}
use Rattle.cf_core.specs.Store.{At}
use Rattle.cf_core_place.specs.Routes.{place_of}
use Rattle.cf_core_objects.specs.Answer.{Told}
use Rattle.cf_core_objects.specs.Log.{value_of}
use Rattle.cf_core_objects.specs.Site.{reference_sort}
use Rattle.cf_core_objects.specs.Store.{state_of}
use Rattle.cf_core_objects.proofs.AccessLaws.{followed-as, not-reference}
use Rattle.cf_core_objects.proofs.access.followed.Goals as goal

pub returns-in-Reference : goal.returns-in-Reference
returns-in-Reference c = λ T e w.
    let s = state_of T e c.args.objects.now in
    let p = place_of c.args.place in
    subst (λ (r : Ran (Did _)). Told value_of c.bound.result s w r)
    (sym (followed-as p s w c.site_at-site.result (c.site_at-site.ensures.site T) ∙ ap (λ so. when (reference_sort so) (read_place [] p >>= bound_to) (gives (At p)) s w) c.in-Reference.is))
    (c.bound.ensures (read_place [] p) s w (c.read.ensures T e w))

pub returns-in_default : goal.returns-in_default
returns-in_default c = λ T e w.
    let s = state_of T e c.args.objects.now in
    let p = place_of c.args.place in
    followed-as p s w c.site_at-site.result (c.site_at-site.ensures.site T)
    ∙ ap (λ b. when b (read_place [] p >>= bound_to) (gives (At p)) s w) (not-reference c.site_at-site.result.sort c.in_default.not-Reference)
