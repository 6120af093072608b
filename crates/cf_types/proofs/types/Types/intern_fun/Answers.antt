use Rattle.std.proofs.Common.{◌<◌, All, length, sym, subst}
use Rattle.cf_types.specs.Table.{Table, fun_parts, AreParameters}
use Rattle.cf_types.proofs.Equality.{same_fun}
use Rattle.cf_types.proofs.Tables.{entered_fun}
use Rattle.cf_types.proofs.types.Types.intern_fun.Goals as goal

pub place_of-requires-clause-same : goal.place_of-requires-clause-same
place_of-requires-clause-same c = same_fun

pub invariant_of-self-2 : goal.invariant_of-self-2
invariant_of-self-2 c =
    let held : Table = record { types = c.self.inside.types.keys; funs = c.self.inside.funs.keys } in
    entered_fun held c.args.fun c.self.invariant (subst (λ (t : Table). All (λ p. p < length t.types) (fun_parts c.args.fun)) (sym c.self.view_is) c.requires.known)
    (subst (λ (t : Table). AreParameters t.types c.args.fun.params) (sym c.self.view_is) c.requires.parameters)
    c.place_of.new.items.keys c.in_ok-place.place c.in_ok-place.ensures.ok c.place_of.ensures.fits
