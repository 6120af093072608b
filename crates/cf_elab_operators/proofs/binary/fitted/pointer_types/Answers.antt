use Rattle.cf_elab_env.proofs.Growth.{grows_through}
use Rattle.cf_elab_operators.proofs.binary.fitted.pointer_types.Goals as goal

pub returns-clause-grows : goal.returns-clause-grows
returns-clause-grows c =
    grows_through _ _ _ c.in_ok-a.ensures.grows (grows_through _ _ _ c.in_ok-b.ensures.grows (grows_through _ _ _ c.in_ok-t.ensures.grows c.in_ok-u.ensures.grows))
