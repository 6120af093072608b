use Rattle.std.proofs.Common.{length, sym, subst, IsTrue}
use Rattle.cf_types.specs.Table.{Table, Names, is_normal}
use Rattle.cf_types.proofs.Tables.{entered_type}
use Rattle.cf_types.proofs.types.Types.intern.Goals as goal

pub invariant_of-self-2 : goal.invariant_of-self-2
invariant_of-self-2 c =
    let held : Table = record { types = c.self.inside.types.keys; funs = c.self.inside.funs.keys } in
    entered_type held c.args.ty c.self.invariant (subst (λ (t : Table). IsTrue (is_normal t.types c.args.ty)) (sym c.self.view_is) c.requires.normal) (subst (λ (t : Table). Names t.funs (length t.types) (length t.funs) c.args.ty) (sym c.self.view_is) c.requires.known)
    c.place_of.new.items.keys c.in_ok-place.place c.in_ok-place.ensures.ok c.place_of.ensures.fits
