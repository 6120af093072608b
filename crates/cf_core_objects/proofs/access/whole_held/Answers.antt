use Rattle.std.proofs.Common.{◌∙◌, [], ap}
use Rattle.cf_core.specs.Places.{type_at}
use Rattle.cf_core_objects.specs.Site.{zero_sort}
use Rattle.cf_core_objects.specs.Store.{objects_of}
use Rattle.cf_core_objects.proofs.SiteLaws.{zero-as}
use Rattle.cf_core_objects.proofs.access.whole_held.Goals as goal

pub returns : goal.returns
returns c = λ T.
    let here = c.site_at-site.ensures.site T in
    c.held_at.ensures T (zero-as (type_at [] (objects_of T c.args.objects.now.cells.items c.args.object).type []) ∙ ap zero_sort here.sort)
