use Rattle.std.proofs.Common.{◌<◌, ◌∙◌, ap, length, slice_get, sym}
use Rattle.std.proofs.lemmas.List.Elements.{All-head}
use Rattle.cf_types.specs.Table.{Table}
use Rattle.cf_elab_ends.proofs.types.result_of.Goals as goal

pub returns-clause-known : goal.returns-clause-known
returns-clause-known c =
    let types = c.args.env.now.types in
    All-head (λ p. p < length types.types) c.get_fun.result.now.result c.get_fun.result.now.params
    (c.holds.ensures.table.known c.args.number c.get_fun.result.now (ap (λ (t : Table). slice_get t.funs c.args.number) (sym c.types.ensures.value) ∙ c.get_fun.ensures))
