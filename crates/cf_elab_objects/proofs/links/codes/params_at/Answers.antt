use Rattle.std.proofs.Common.{ap, sym, ◌∙◌, slice_get}
use Rattle.cf_types.specs.Table.{Table}
use Rattle.cf_elab_objects.proofs.LinksLaws.ParamLaws.{params_are}
use Rattle.cf_elab_objects.proofs.links.codes.params_at.Goals as goal

pub returns-in-Fun-clause-value : goal.returns-in-Fun-clause-value
returns-in-Fun-clause-value c =
    params_are c.args.env.now c.args.ty c.holds.ensures c.requires c.in-Fun.fun c.get_fun.result.now c.as_slice.result.now (sym c.type_at.ensures ∙ c.in-Fun.is)
    (ap (λ (t : Table). slice_get t.funs c.in-Fun.fun) (sym c.types.ensures.value) ∙ c.get_fun.ensures) c.as_slice.ensures
