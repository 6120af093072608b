use Rattle.std.proofs.Common.{◌≡◌, true, false, sym, ap, ◌∙◌}
use Rattle.cf_types.specs.Table.{Table, passes, takes_const}
use Rattle.cf_elab.specs.Answer.{Made}
use Rattle.cf_elab_env.proofs.Consts.{const_kept, const_stands}
use Rattle.cf_elab_env.proofs.Growth.{grows-refl}
use Rattle.cf_elab_env.proofs.env.Env.const_on.Goals as goal

pub returns-in_ok-id-clause-made : goal.returns-in_ok-id-clause-made
returns-in_ok-id-clause-made c =
    let env = c.args.self.now in
    let taken : passes takes_const env.types.types c.args.ty ≡ true =
    ap (λ (t : Table). passes takes_const t.types c.args.ty) (sym c.types.ensures.value) ∙ sym c.takes_const.ensures ∙ c.if-takes_const.true in
    const_stands env c.args.ty c.holds.ensures.table c.requires.known (Made c.in_ok-id.id c.intern.new.self) taken c.in_ok-id.ensures.made

pub returns-else-takes_const-clause-made : goal.returns-else-takes_const-clause-made
returns-else-takes_const-clause-made c =
    let env = c.args.self.now in
    let untaken : passes takes_const env.types.types c.args.ty ≡ false =
    ap (λ (t : Table). passes takes_const t.types c.args.ty) (sym c.types.ensures.value) ∙ sym c.takes_const.ensures ∙ c.if-takes_const.false in
    const_kept env c.args.ty c.holds.ensures.table c.requires.known c.requires.no_array untaken

pub returns-else-takes_const-clause-grows : goal.returns-else-takes_const-clause-grows
returns-else-takes_const-clause-grows c = grows-refl c.args.self.now.types
