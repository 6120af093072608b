use Rattle.std.proofs.Common.{◌≡◌, ◌∙◌, ℤ, FitsSigned, to_z, of_z, to_z-of_z, rules, ap, sym}
use Rattle.std.specs.Int.{w128}
use Rattle.cf_core.specs.Pointers as pointers
use Rattle.cf_core_place.specs.Routes.{place_of, kept_to}
use Rattle.cf_core_objects.specs.Store.{state_of}
use Rattle.cf_core_store.proofs.StoreLaws.{moved-dead, moved-none, moved-some}
use Rattle.cf_core_store.proofs.moving.moved_place.Goals as goal

pub returns-then-site : goal.returns-then-site
returns-then-site c = λ T e w.
    moved-dead (state_of T e c.args.objects.now) (place_of c.args.place) c.site_at-site.result c.args.by w (c.site_at-site.ensures.site T) c.if-site.true

pub returns-in-None : goal.returns-in-None
returns-in-None c = λ T e w.
    let eb : to_z w128 (of_z w128 c.args.by) ≡ c.args.by = let fits : FitsSigned w128 c.args.by = search rules in to_z-of_z {w = w128} {z = c.args.by} fits in
    moved-none (state_of T e c.args.objects.now) (place_of c.args.place) c.site_at-site.result c.index.result c.args.by w (c.site_at-site.ensures.site T) c.if-site.false c.index.ensures
    (sym (c.further.ensures ∙ ap (λ (z : ℤ). kept_to c.site_at-site.result.bound (pointers.further c.index.result z)) eb) ∙ c.in-None.is)

pub returns-in-Some : goal.returns-in-Some
returns-in-Some c = λ T e w.
    let eb : to_z w128 (of_z w128 c.args.by) ≡ c.args.by = let fits : FitsSigned w128 c.args.by = search rules in to_z-of_z {w = w128} {z = c.args.by} fits in
    moved-some (state_of T e c.args.objects.now) (place_of c.args.place) c.site_at-site.result c.index.result c.args.by c.in-Some.index c.with_index.result w (c.site_at-site.ensures.site T) c.if-site.false c.index.ensures
    (sym (c.further.ensures ∙ ap (λ (z : ℤ). kept_to c.site_at-site.result.bound (pointers.further c.index.result z)) eb) ∙ c.in-Some.is) c.with_index.ensures
