use Rattle.std.proofs.Common.{[], refl, ap, false}
use Rattle.cf_run_tree.specs.declared.shape.Bounds.TheVariants as bounds
use Rattle.cf_run_tree.specs.declared.shape.Form.TheVariants as form
use Rattle.cf_run_tree.specs.declared.shape.Shape.{Shape}
use Rattle.cf_core.specs.Store.{zeroed_object}
use Rattle.cf_core.specs.Types.{void}
use Rattle.cf_core_objects.specs.Site.{sort_with}
use Rattle.cf_core_objects.specs.declared.object.Storage.TheVariants as storage
use Rattle.cf_core_objects.proofs.SiteLaws.{site-of, items-of, none-empty}
use Rattle.cf_core_objects.proofs.site.nowhere.Goals as goal

abbrev nothing : Shape
nothing = record { is_const = false; form = form.Void }

pub returns-clause-site : goal.returns-clause-site
returns-clause-site c = λ T.
    site-of T nothing bounds.None c.args.part (zeroed_object [] void).held storage.Permanent false c.bound.result _ c.is_inside.result false _
    (none-empty c.args.part) refl (c.is_inside.ensures.inside T nothing) refl (c.bound.ensures T nothing)

pub returns-clause-items : goal.returns-clause-items
returns-clause-items c = items-of form.Void bounds.None c.args.part _ (ap (sort_with form.Void) (none-empty c.args.part)) (λ h. c.is_inside.ensures.end h)
