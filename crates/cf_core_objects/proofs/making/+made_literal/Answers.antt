use Rattle.std.proofs.Common.{◌∙◌, sym}
use Rattle.cf_core_objects.proofs.MadeLaws.{found-here, found-before}
use Rattle.cf_core_objects.proofs.making.+made_literal.Goals as goal

pub returns-then-is_literal : goal.returns-then-is_literal
returns-then-is_literal t c =
    sym (found-here c.args.function.now c.args.number c.args.literals.now c.in-Some.rest.now c.in-Some.last.now c.in-Some.ensures.cases.0 (sym c.is_literal.ensures ∙ c.if-is_literal.true))

pub returns-else-is_literal : goal.returns-else-is_literal
returns-else-is_literal t c =
    c.made_literal.ensures
    ∙ sym (found-before c.args.function.now c.args.number c.args.literals.now c.in-Some.rest.now c.in-Some.last.now c.in-Some.ensures.cases.0 (sym c.is_literal.ensures ∙ c.if-is_literal.false))
