use Rattle.cf_lowerable_ready.proofs.GivenLaws.{given_so, given_not}
use Rattle.cf_lowerable_ready.proofs.operands.operated.Goals as goal

pub returns-then-takes_both : goal.returns-then-takes_both
returns-then-takes_both c = λ tables. given_so _ _ c.takes_both.result _ (c.takes_both.ensures tables) c.if-takes_both.true (c.operator_gives.ensures tables)

pub returns-else-takes_both : goal.returns-else-takes_both
returns-else-takes_both c = λ tables. given_not _ c.takes_both.result _ (c.takes_both.ensures tables) c.if-takes_both.false
