use Rattle.std.proofs.Common.{ap, ◌∙◌}
use Rattle.cf_convert.specs.Constness.{type_at}
use Rattle.cf_elab.specs.Operand.{ty_sort}
use Rattle.cf_elab_env.proofs.Sorts.{no_class_at, fun_known, rest_is_void}
use Rattle.cf_elab_env.proofs.types.sort_of.Goals as goal

pub returns-in-Fun-clause-known : goal.returns-in-Fun-clause-known
returns-in-Fun-clause-known c = fun_known c.args.types.now c.bare.result c.type_at.result.now c.in-Fun.fun c.requires.table c.type_at.ensures.kept c.in-Fun.is

pub returns-in_default-clause-value : goal.returns-in_default-clause-value
returns-in_default-clause-value c =
    let types = c.args.types.now in
    let found = c.type_at.result.now in
    let rest = c.in_default in
    rest_is_void types found (no_class_at types c.bare.result found c.requires.no_class c.type_at.ensures.kept)
    rest.not-Int rest.not-Enum rest.not-Ptr rest.not-Ref rest.not-Array rest.not-Fun
    ∙ ap (ty_sort types) (c.type_at.ensures.value ∙ ap (type_at types) c.bare.ensures.value)
