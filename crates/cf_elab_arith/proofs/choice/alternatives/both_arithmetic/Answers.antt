use Rattle.cf_elab_env.proofs.Growth.{grows_through}
use Rattle.cf_elab_arith.proofs.choice.alternatives.both_arithmetic.Goals as goal

pub returns-clause-grows : goal.returns-clause-grows
returns-clause-grows c =
    grows_through _ _ _ c.in_ok-a.ensures.grows (grows_through _ _ _ c.in_ok-b.ensures.grows c.in_ok-ty.ensures.grows)
