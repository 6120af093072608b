use Rattle.std.proofs.Common.{ap, sym, ◌∙◌, slice_get}
use Rattle.cf_types.specs.Table.{Table}
use Rattle.cf_elab_functions.proofs.TypeLaws.{function_at, other_at}
use Rattle.cf_elab_functions.proofs.function_types.fun_at.Goals as goal

pub returns-in-Fun : goal.returns-in-Fun
returns-in-Fun c =
    function_at c.args.env.now.types c.args.ty c.bare-bare.result c.bare-bare.ensures.value c.bare-bare.ensures.known c.in-Fun.fun c.get_fun.result.now
    (sym c.type_at.ensures ∙ c.in-Fun.is) (ap (λ (t : Table). slice_get t.funs c.in-Fun.fun) (sym c.types.ensures.value) ∙ c.get_fun.ensures)

pub returns-in_default : goal.returns-in_default
returns-in_default c =
    other_at c.args.env.now.types c.args.ty c.bare-bare.result c.bare-bare.ensures.value c.bare-bare.ensures.known (λ f h. c.in_default.not-Fun f (c.type_at.ensures ∙ h))
