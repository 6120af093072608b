use Rattle.std.proofs.Common.{◌≡◌, ◌<◌, length, get_or, refl, sym, ap, subst, ◌∙◌}
use Rattle.std.proofs.lemmas.Option.{slice_get_read}
use Rattle.cf_types.specs.Table.{Table}
use Rattle.cf_types.proofs.Tables.{names_below}
use Rattle.cf_types.proofs.types.Types.get.Goals as goal

pub returns-clause-earlier : goal.returns-clause-earlier
returns-clause-earlier c =
    let types = c.self.inside.types.keys in
    let ty = c.index-as_slice-number.result in
    let within : c.args.id < length types = subst (λ (t : Table). c.args.id < length t.types) (sym c.self.view_is) c.requires in
    let here : ty ≡ get_or types c.args.id ty = c.index-as_slice-number.is ∙ ap (λ l. get_or l c.number.result ty) c.as_slice.ensures.keys ∙ ap (λ i. get_or types i ty) c.number.ensures in
    names_below c.self.inside.funs.keys c.args.id (length c.self.inside.funs.keys) ty
    (c.self.invariant.earlier c.args.id ty (slice_get_read types (length types) c.args.id ty refl within here))
