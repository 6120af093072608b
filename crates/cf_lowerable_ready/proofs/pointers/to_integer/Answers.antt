use Rattle.cf_lowerable_ready.proofs.GivenLaws.{given_so, given_not}
use Rattle.cf_lowerable_ready.proofs.pointers.to_integer.Goals as goal

pub returns-then-is_integer : goal.returns-then-is_integer
returns-then-is_integer c = λ tables. given_so _ _ c.is_integer.result _ (c.is_integer.ensures tables) c.if-is_integer.true (c.of_kind.ensures tables)

pub returns-else-is_integer : goal.returns-else-is_integer
returns-else-is_integer c = λ tables. given_not _ c.is_integer.result _ (c.is_integer.ensures tables) c.if-is_integer.false
