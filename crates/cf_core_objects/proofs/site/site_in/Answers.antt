use Rattle.cf_core_objects.specs.Log.{logged}
use Rattle.cf_core_objects.specs.Store.{cell_type, first_held}
use Rattle.cf_core_objects.proofs.SiteLaws.{site-of, items-of}
use Rattle.std.proofs.Common.{◌∙◌, ap}
use Rattle.cf_core_objects.specs.Site.{sort_with}
use Rattle.cf_core_objects.proofs.site.site_in.Goals as goal

pub returns-clause-site : goal.returns-clause-site
returns-clause-site c = λ T.
    let cell = c.args.cell.now in
    let t = cell_type T cell in
    site-of T cell.shape cell.bounds c.args.part (logged t (first_held t cell.storage) cell.log.items) cell.storage cell.is_gone c.bound.result c.sort_at.result c.is_inside.result c.is_constant.result c.count-count.result
    c.count-count.ensures c.sort_at.ensures (c.is_inside.ensures.inside T cell.shape) c.is_constant.ensures (c.bound.ensures T cell.shape)

pub returns-clause-items : goal.returns-clause-items
returns-clause-items c =
    let cell = c.args.cell.now in
    items-of cell.shape.form cell.bounds c.args.part _ (c.sort_at.ensures ∙ ap (sort_with cell.shape.form) c.count-count.ensures)
    (λ h. c.is_inside.ensures.end h)
