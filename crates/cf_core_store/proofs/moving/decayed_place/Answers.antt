use Rattle.std.proofs.Common.{ap, sym, subst}
use Rattle.cf_base.specs.World.{Ran}
use Rattle.cf_core.specs.Run.{Did}
use Rattle.cf_core.specs.Store.{Value}
use Rattle.cf_core_place.specs.Routes.{place_of}
use Rattle.cf_core_objects.specs.Answer.{Told}
use Rattle.cf_core_objects.specs.Store.{state_of, value_of}
use Rattle.cf_core_objects.specs.Site.{array_sort}
use Rattle.cf_core_store.proofs.StoreLaws.{decay-as, no-decay, not-array}
use Rattle.cf_core_store.proofs.moving.decayed_place.Goals as goal

pub first_element-requires : goal.first_element-requires
first_element-requires c = c.site_at-site.ensures.items.inside (ap array_sort c.in-Array.is)

pub returns-in-Array : goal.returns-in-Array
returns-in-Array c = λ T e w.
    subst (λ (r : Ran (Did Value)). Told value_of c.first_element.result (state_of T e c.args.objects.now) w r)
    (sym (decay-as (state_of T e c.args.objects.now) (place_of c.args.place) c.site_at-site.result w (c.site_at-site.ensures.site T) (ap array_sort c.in-Array.is))) (c.first_element.ensures (state_of T e c.args.objects.now) w)

pub returns-in_default : goal.returns-in_default
returns-in_default c = λ T e w.
    no-decay (state_of T e c.args.objects.now) (place_of c.args.place) c.site_at-site.result w (c.site_at-site.ensures.site T) (not-array c.site_at-site.result.sort c.in_default.not-Array)
