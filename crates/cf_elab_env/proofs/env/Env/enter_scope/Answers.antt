use Rattle.std.proofs.Common.{sym, ap, ◌∙◌}
use Rattle.cf_elab_env.specs.SeenEnv.{env_seen}
use Rattle.cf_elab_env.specs.Shut as shut
use Rattle.cf_elab_env.proofs.Scoped.{opened_is}
use Rattle.cf_elab_env.proofs.env.Env.enter_scope.Goals as goal

pub returns-clause-made : goal.returns-clause-made
returns-clause-made c = ap shut.enter_scope (sym c.self.view_is) ∙ opened_is (env_seen c.self.inside) c.enter.new.self c.in_ok-enter.ensures.outer c.in_ok-enter.ensures.inner
