use Rattle.std.proofs.Common.{◌≡◌, ◌∙◌, Option, Some, None, slice_get, ap, sym, subst}
use Rattle.std.proofs.lemmas.Option.{slice_get_past}
use Rattle.cf_core_place.specs.Routes.{route_of}
use Rattle.cf_core_objects.specs.declared.object.Cell.{Cell}
use Rattle.cf_core_objects.specs.Site.{IsSite}
use Rattle.cf_core_objects.specs.Store.{object_of}
use Rattle.cf_core_objects.proofs.CellLaws.{got-at}
use Rattle.cf_core_objects.proofs.site.site_at.Goals as goal

pub returns-in-None-clause-site : goal.returns-in-None-clause-site
returns-in-None-clause-site c = λ T.
    let o = c.args.place.object in
    let none : slice_get c.args.objects.now.cells.items o ≡ None = ap (λ l. slice_get l o) (sym c.deref.ensures.value) ∙ slice_get_past c.deref.result.now o c.in-None.ensures.lookup.3 in
    subst (λ (x : Option Cell). IsSite (object_of T x) (route_of c.args.place.part) c.nowhere.result) (sym none) (c.nowhere.ensures.site T)

pub returns-in-Some-clause-site : goal.returns-in-Some-clause-site
returns-in-Some-clause-site c = λ T.
    subst (λ (x : Option Cell). IsSite (object_of T x) (route_of c.args.place.part) c.site_in.result)
    (sym (got-at c.args.objects.now.cells.items c.deref.result.now c.args.place.object c.in-Some.cell.now c.deref.ensures.value c.in-Some.ensures.lookup.3.0 c.in-Some.ensures.lookup.3.1))
    (c.site_in.ensures.site T)
