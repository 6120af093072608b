use Rattle.cf_lowerable_ready.proofs.GivenLaws.{both_are}
use Rattle.std.proofs.Common.{◌∙◌}
use Rattle.cf_lowerable_ready.proofs.operands.takes_both.Goals as goal

pub returns : goal.returns
returns c = λ tables. c.both.ensures ∙ both_are _ _ _ _ (c.has_kind-first.ensures.has tables) (c.right_has-second.ensures tables)
