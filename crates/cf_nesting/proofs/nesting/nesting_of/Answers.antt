use Rattle.cf_nesting.proofs.Counts.{count-within}
use Rattle.cf_nesting.proofs.nesting.nesting_of.Goals as goal

-- the nesting before this token is within the limit
pub take-requires : goal.take-requires
take-requires c = count-within c.loop-rest.levels c.loop-rest.invariant.within
