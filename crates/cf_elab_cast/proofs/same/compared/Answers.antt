use Rattle.std.proofs.Common.{ap, ◌∙◌}
use Rattle.cf_convert.specs.Constness.{type_at}
use Rattle.cf_elab_cast.proofs.Compared.{compared_value, compared_below}
use Rattle.cf_elab_cast.proofs.same.compared.Goals as goal

pub returns-clause-value : goal.returns-clause-value
returns-clause-value c =
    let env = c.args.env.now in
    compared_value env c.args.id c.args.other c.type_at-ty.result c.type_at-with.result c.same_if.result c.holds.ensures c.requires.first c.requires.second
    (c.type_at-ty.ensures ∙ ap (type_at env.types) c.bare.ensures.value)
    (c.type_at-with.ensures ∙ ap (type_at env.types) c.bare-2.ensures.value)
    c.same_if.ensures

pub returns-clause-below : goal.returns-clause-below
returns-clause-below c =
    let env = c.args.env.now in
    compared_below env c.args.id c.args.other c.type_at-ty.result c.type_at-with.result c.same_if.result c.holds.ensures c.requires.first c.requires.second
    (c.type_at-ty.ensures ∙ ap (type_at env.types) c.bare.ensures.value)
    (c.type_at-with.ensures ∙ ap (type_at env.types) c.bare-2.ensures.value)
    c.same_if.ensures
