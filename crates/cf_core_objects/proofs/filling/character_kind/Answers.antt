use Rattle.std.proofs.Common.{◌≡◌, ◌∙◌, [], Option, Some, None, slice_get, ap, sym}
use Rattle.std.proofs.lemmas.Option.{slice_get_past}
use Rattle.cf_core.specs.Objects.{character_kind}
use Rattle.cf_core.specs.Places.{type_at}
use Rattle.cf_core_place.specs.Routes.{row_route}
use Rattle.cf_core_objects.specs.declared.object.Cell.{Cell}
use Rattle.cf_core_objects.specs.Store.{object_of}
use Rattle.cf_core_objects.proofs.CellLaws.{got-at}
use Rattle.cf_core_objects.proofs.SiteLaws.{kind-row, kind-nowhere}
use Rattle.cf_core_objects.proofs.filling.character_kind.Goals as goal

pub returns-in-None : goal.returns-in-None
returns-in-None c = λ T e.
    let o = c.args.row.object in
    let none : slice_get c.args.objects.now.cells.items o ≡ None = ap (λ l. slice_get l o) (sym c.deref.ensures.value) ∙ slice_get_past c.deref.result.now o c.in-None.ensures.lookup.3 in
    ap (λ (x : Option Cell). character_kind (type_at [] (object_of T x).type (row_route c.args.row.item))) none ∙ kind-nowhere c.args.row.item

pub returns-in-Some : goal.returns-in-Some
returns-in-Some c = λ T e.
    let cell = c.in-Some.cell.now in
    ap (λ (x : Option Cell). character_kind (type_at [] (object_of T x).type (row_route c.args.row.item)))
    (got-at c.args.objects.now.cells.items c.deref.result.now c.args.row.object cell c.deref.ensures.value c.in-Some.ensures.lookup.3.0 c.in-Some.ensures.lookup.3.1)
    ∙ kind-row T cell.shape cell.bounds c.args.row.item ∙ sym c.kind_of.ensures
