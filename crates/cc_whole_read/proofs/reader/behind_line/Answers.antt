use Rattle.std.proofs.Common.{ap, sym, ◌∙◌}
use Rattle.cc_whole_nesting.specs.Nesting.{passes}
use Rattle.cc_whole_read.proofs.Answering.{front_good}
use Rattle.cc_whole_read.proofs.Telling.{too_deep, tokens_tell}
use Rattle.cc_whole_read.proofs.reader.behind_line.Goals as goal

pub returns-then-branch : goal.returns-then-branch
returns-then-branch c =
    λ text line total small. too_deep text c.args.body.now c.args.version c.args.before line total small c.in_ok-front.front c.in_ok-front.ensures
    (ap passes (sym c.as_slice.ensures.value) ∙ (sym c.in_ok-is_too_deep.ensures ∙ c.if-branch.true))

pub unit_of-requires-clause-good : goal.unit_of-requires-clause-good
unit_of-requires-clause-good c = front_good c.args.before c.args.body.now c.in_ok-front.front c.in_ok-front.ensures

pub returns : goal.returns
returns c =
    λ text line total small. tokens_tell text c.args.body.now c.args.version c.args.before line total small c.in_ok-front.front c.in_ok-front.ensures c.unit_of.result
    (ap passes (sym c.as_slice.ensures.value) ∙ (sym c.in_ok-is_too_deep.ensures ∙ c.if-branch.false)) c.unit_of.ensures
