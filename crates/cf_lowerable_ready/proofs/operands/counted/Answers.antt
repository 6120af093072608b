use Rattle.cf_lowerable_ready.proofs.GivenLaws.{given_so, given_not}
use Rattle.cf_lowerable_ready.proofs.operands.counted.Goals as goal

pub returns-then-takes_change : goal.returns-then-takes_change
returns-then-takes_change c = λ tables. given_so _ _ c.takes_change.result _ (c.takes_change.ensures tables) c.if-takes_change.true (c.of_kind.ensures tables)

pub returns-else-takes_change : goal.returns-else-takes_change
returns-else-takes_change c = λ tables. given_not _ c.takes_change.result _ (c.takes_change.ensures tables) c.if-takes_change.false
