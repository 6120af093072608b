use Rattle.std.proofs.Common.{◌≡◌, ap, sym, ◌∙◌, subst, IfOk}
use Rattle.cc_whole.specs.Plain.{items_of}
use Rattle.cc_whole.specs.ValidUnit.{valid_program_items}
use Rattle.cc_whole_program.proofs.UseLaws.{program-is}
use Rattle.cc_whole_program.proofs.program.is_valid_program.Goals as goal

pub returns : goal.returns
returns c =
    subst (λ b. IfOk c.is_closed.result (λ ok. ok ≡ b))
    (program-is (items_of c.as_slice-items.result.now) (sym c.in_ok-valid_items.ensures ∙ c.if-not-branch.false)
    (sym c.none_static.ensures ∙ c.if-not-none_static.false)
    ∙ ap (λ l. valid_program_items (items_of l)) c.as_slice-items.ensures)
    c.is_closed.ensures
