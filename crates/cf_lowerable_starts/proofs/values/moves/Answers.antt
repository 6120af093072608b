use Rattle.std.proofs.Common.{◌||◌, ap, ◌∙◌}
use Rattle.cf_core.specs.declared.operators.PointerOperator.TheVariants as pointer
use Rattle.cf_lower_constants.specs.Knowing.{fact_in}
use Rattle.cf_lower_program.specs.Alike as alike
use Rattle.cf_lowerable_starts.proofs.ValueLaws.{either_moves}
use Rattle.cf_lowerable_starts.proofs.values.moves.Goals as goal

pub returns : goal.returns
returns c =
    λ n m.
    let tables = c.args.tables.now in
    let x = fact_in tables c.args.a.now c.args.first.now n in
    let y = fact_in tables c.args.b.now c.args.second.now m in
    c.either.ensures ∙ ap (λ b. b || c.in_ok-behind.behind) (c.in_ok-ahead.ensures n m c.args.second.now)
    ∙ ap (λ b. alike.moves_by pointer.Subtract x y || b) (c.in_ok-behind.ensures m n c.args.first.now) ∙ either_moves x y
