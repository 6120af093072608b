use Rattle.std.proofs.Common.{rules, ap, sym, ◌∙◌}
use Rattle.cf_elab_shape.specs.declared.shapes.shape.Shape.TheVariants as form
use Rattle.cf_elab_shape.specs.declared.shapes.shape.Shape.TheViews.{the_lemmas}
use Rattle.cf_elab_shape.proofs.ShapesLaws.TypedLaws.{typed_pointing, typed_referring, typed_taking, typed_holding, pointing_inside, referring_inside, taking_inside, holding_inside}
use Rattle.cf_elab_shape.proofs.shapes.typing.+typed.Goals as goal

pub returns-in_err-pointer-in-Pointing-clause-made : goal.returns-in_err-pointer-in-Pointing-clause-made
returns-in_err-pointer-in-Pointing-clause-made t c =
    rw (typed_pointing c.args.position c.args.shape.now c.get-inside.result.now c.args.base c.args.env.now c.in-Pointing.at c.in-Pointing.is_const (c.in-Pointing.is ∙ ap (λ s. form.Pointing c.in-Pointing.at c.in-Pointing.is_const s) (sym c.get-inside.ensures))) (search rules)

pub returns-in_err-shaped-in-Pointing-clause-made : goal.returns-in_err-shaped-in-Pointing-clause-made
returns-in_err-shaped-in-Pointing-clause-made t c =
    rw (typed_pointing c.args.position c.args.shape.now c.get-inside.result.now c.args.base c.args.env.now c.in-Pointing.at c.in-Pointing.is_const (c.in-Pointing.is ∙ ap (λ s. form.Pointing c.in-Pointing.at c.in-Pointing.is_const s) (sym c.get-inside.ensures))) (search rules)

pub returns-in_ok-shaped-in-Pointing-clause-made : goal.returns-in_ok-shaped-in-Pointing-clause-made
returns-in_ok-shaped-in-Pointing-clause-made t c =
    rw (typed_pointing c.args.position c.args.shape.now c.get-inside.result.now c.args.base c.args.env.now c.in-Pointing.at c.in-Pointing.is_const (c.in-Pointing.is ∙ ap (λ s. form.Pointing c.in-Pointing.at c.in-Pointing.is_const s) (sym c.get-inside.ensures))) (search rules)

pub returns-in_err-reference-in-Referring-clause-made : goal.returns-in_err-reference-in-Referring-clause-made
returns-in_err-reference-in-Referring-clause-made t c =
    rw (typed_referring c.args.position c.args.shape.now c.get-inside-in-Referring.result.now c.args.base c.args.env.now c.in-Referring.at (c.in-Referring.is ∙ ap (λ s. form.Referring c.in-Referring.at s) (sym c.get-inside-in-Referring.ensures))) (search rules)

pub returns-in_err-shaped-in-Referring-clause-made : goal.returns-in_err-shaped-in-Referring-clause-made
returns-in_err-shaped-in-Referring-clause-made t c =
    rw (typed_referring c.args.position c.args.shape.now c.get-inside-in-Referring.result.now c.args.base c.args.env.now c.in-Referring.at (c.in-Referring.is ∙ ap (λ s. form.Referring c.in-Referring.at s) (sym c.get-inside-in-Referring.ensures))) (search rules)

pub returns-in_ok-shaped-in-Referring-clause-made : goal.returns-in_ok-shaped-in-Referring-clause-made
returns-in_ok-shaped-in-Referring-clause-made t c =
    rw (typed_referring c.args.position c.args.shape.now c.get-inside-in-Referring.result.now c.args.base c.args.env.now c.in-Referring.at (c.in-Referring.is ∙ ap (λ s. form.Referring c.in-Referring.at s) (sym c.get-inside-in-Referring.ensures))) (search rules)

pub returns-in_err-function-in-Taking-clause-made : goal.returns-in_err-function-in-Taking-clause-made
returns-in_err-function-in-Taking-clause-made t c =
    rw (typed_taking c.args.position c.args.shape.now c.get-inside-in-Taking.result.now c.args.base c.args.env.now c.in-Taking.at c.in-Taking.parameters c.in-Taking.is_const c.may_be_const-may.result (c.in-Taking.is ∙ ap (λ s. form.Taking c.in-Taking.at c.in-Taking.parameters c.in-Taking.is_const s) (sym c.get-inside-in-Taking.ensures)) c.may_be_const-may.ensures) (search rules)

pub returns-in_err-shaped-in-Taking-clause-made : goal.returns-in_err-shaped-in-Taking-clause-made
returns-in_err-shaped-in-Taking-clause-made t c =
    rw (typed_taking c.args.position c.args.shape.now c.get-inside-in-Taking.result.now c.args.base c.args.env.now c.in-Taking.at c.in-Taking.parameters c.in-Taking.is_const c.may_be_const-may.result (c.in-Taking.is ∙ ap (λ s. form.Taking c.in-Taking.at c.in-Taking.parameters c.in-Taking.is_const s) (sym c.get-inside-in-Taking.ensures)) c.may_be_const-may.ensures) (search rules)

pub returns-in_ok-shaped-in-Taking-clause-made : goal.returns-in_ok-shaped-in-Taking-clause-made
returns-in_ok-shaped-in-Taking-clause-made t c =
    rw (typed_taking c.args.position c.args.shape.now c.get-inside-in-Taking.result.now c.args.base c.args.env.now c.in-Taking.at c.in-Taking.parameters c.in-Taking.is_const c.may_be_const-may.result (c.in-Taking.is ∙ ap (λ s. form.Taking c.in-Taking.at c.in-Taking.parameters c.in-Taking.is_const s) (sym c.get-inside-in-Taking.ensures)) c.may_be_const-may.ensures) (search rules)

pub returns-in_err-array-in-Some-clause-made : goal.returns-in_err-array-in-Some-clause-made
returns-in_err-array-in-Some-clause-made t c =
    rw (typed_holding c.args.position c.args.shape.now c.get-inside-in-Holding.result.now c.args.base c.args.env.now c.in-Holding.at c.in-Holding.bound c.in-Some.bound (c.in-Holding.is ∙ ap (λ s. form.Holding c.in-Holding.at c.in-Holding.bound s) (sym c.get-inside-in-Holding.ensures)) c.in-Some.is) (search rules)

pub returns-in_err-shaped-in-Some-clause-made : goal.returns-in_err-shaped-in-Some-clause-made
returns-in_err-shaped-in-Some-clause-made t c =
    rw (typed_holding c.args.position c.args.shape.now c.get-inside-in-Holding.result.now c.args.base c.args.env.now c.in-Holding.at c.in-Holding.bound c.in-Some.bound (c.in-Holding.is ∙ ap (λ s. form.Holding c.in-Holding.at c.in-Holding.bound s) (sym c.get-inside-in-Holding.ensures)) c.in-Some.is) (search rules)

pub returns-in_ok-shaped-in-Some-clause-made : goal.returns-in_ok-shaped-in-Some-clause-made
returns-in_ok-shaped-in-Some-clause-made t c =
    rw (typed_holding c.args.position c.args.shape.now c.get-inside-in-Holding.result.now c.args.base c.args.env.now c.in-Holding.at c.in-Holding.bound c.in-Some.bound (c.in-Holding.is ∙ ap (λ s. form.Holding c.in-Holding.at c.in-Holding.bound s) (sym c.get-inside-in-Holding.ensures)) c.in-Some.is) (search rules)

pub typed-requires : goal.typed-requires
typed-requires t c = (
  search (rules, the_lemmas),
  (
    pointing_inside c.args.env.now.types c.pointer_to.new.env.types c.args.shape.now c.in-Pointing.inside c.get-inside.result.now c.requires.shape_known c.in_ok-pointer-in-Pointing.ensures.grows c.in-Pointing.at c.in-Pointing.is_const
        c.in-Pointing.is c.get-inside.ensures,
    c.in_ok-pointer-in-Pointing.ensures.known,
  ),
)

pub typed-requires-in-Referring : goal.typed-requires-in-Referring
typed-requires-in-Referring t c = (
  search (rules, the_lemmas),
  (
    referring_inside c.args.env.now.types c.reference_to.new.env.types c.args.shape.now c.in-Referring.inside c.get-inside-in-Referring.result.now c.requires.shape_known c.in_ok-reference-in-Referring.ensures.grows c.in-Referring.at
        c.in-Referring.is c.get-inside-in-Referring.ensures,
    c.in_ok-reference-in-Referring.ensures.known,
  ),
)

pub typed-requires-in-Taking : goal.typed-requires-in-Taking
typed-requires-in-Taking t c = (
  search (rules, the_lemmas),
  (
    taking_inside c.args.env.now.types c.function_of.new.env.types c.args.shape.now c.in-Taking.inside c.get-inside-in-Taking.result.now c.requires.shape_known c.in_ok-function-in-Taking.ensures.grows c.in-Taking.at c.in-Taking.parameters c.in-Taking.is_const
        c.in-Taking.is c.get-inside-in-Taking.ensures,
    c.in_ok-function-in-Taking.ensures.known,
  ),
)

pub typed-requires-in-Some : goal.typed-requires-in-Some
typed-requires-in-Some t c = (
  search (rules, the_lemmas),
  (
    holding_inside c.args.env.now.types c.array_of.new.env.types c.args.shape.now c.in-Holding.inside c.get-inside-in-Holding.result.now c.requires.shape_known c.in_ok-array-in-Some.ensures.grows c.in-Holding.at c.in-Holding.bound
        c.in-Holding.is c.get-inside-in-Holding.ensures,
    c.in_ok-array-in-Some.ensures.known,
  ),
)
