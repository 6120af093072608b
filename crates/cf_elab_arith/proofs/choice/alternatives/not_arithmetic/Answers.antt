use Rattle.std.proofs.Common.{ℕ, sym, subst, ◌∙◌}
use Rattle.cf_elab_env.specs.Holds.{Known}
use Rattle.cf_elab_arith.proofs.ChoiceLaws.Chosen.{void_as}
use Rattle.cf_elab_arith.proofs.choice.alternatives.not_arithmetic.Goals as goal

pub one_of-requires-clause-second : goal.one_of-requires-clause-second
one_of-requires-clause-second c =
    let types = c.args.env.now.types in
    let y = c.args.y in
    subst (λ (t : ℕ). Known types (record y { type = t })) (sym c.ty-ty.ensures)
    (void_as types y c.args.x.type y.type c.requires.first.typed (sym c.are_void.ensures ∙ c.if-are_void.true))
