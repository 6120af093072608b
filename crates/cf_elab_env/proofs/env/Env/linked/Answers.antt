use Rattle.std.proofs.Common.{◌<◌, length, subst}
use Rattle.cf_elab.specs.Env.{Env}
use Rattle.cf_elab_env.specs.SeenEnv.{env_seen}
use Rattle.cf_elab_env.proofs.Known.{in_scope_known, below_known}
use Rattle.cf_elab_env.proofs.env.Env.linked.Goals as goal

pub returns-clause-known : goal.returns-clause-known
returns-clause-known c =
    let env = env_seen c.self.inside in
    subst (λ (e : Env). c.number.result < length e.entities) c.self.view_is
    (below_known (length env.entities) c.find_here.result _ c.in_ok-id.id c.number.result (in_scope_known (length env.entities) c.args.name.now env.linked c.self.invariant.linked)
    c.find_here.ensures c.in_ok-id.was c.number.ensures)
