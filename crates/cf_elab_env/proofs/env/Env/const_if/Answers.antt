use Rattle.cf_elab_env.proofs.Growth.{grows-refl}
use Rattle.cf_elab_env.proofs.env.Env.const_if.Goals as goal

pub returns-else-is_const-clause-grows : goal.returns-else-is_const-clause-grows
returns-else-is_const-clause-grows c = grows-refl c.args.self.now.types
