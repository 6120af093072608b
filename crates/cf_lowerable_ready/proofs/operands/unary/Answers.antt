use Rattle.cf_lowerable_ready.proofs.GivenLaws.{given_so, given_not}
use Rattle.cf_lowerable_ready.proofs.operands.unary.Goals as goal

pub returns-then-has_kind : goal.returns-then-has_kind
returns-then-has_kind c = λ tables. given_so _ _ c.has_kind.result _ (c.has_kind.ensures.has tables) c.if-has_kind.true (c.of_kind.ensures tables)

pub returns-else-has_kind : goal.returns-else-has_kind
returns-else-has_kind c = λ tables. given_not _ c.has_kind.result _ (c.has_kind.ensures.has tables) c.if-has_kind.false
