use Rattle.std.proofs.Common.{◌<◌, length, sym, ap, subst, ◌∙◌}
use Rattle.cf_elab.specs.Env.{Env}
use Rattle.cf_elab_env.specs.SeenEnv.{env_seen}
use Rattle.cf_elab_env.proofs.Known.{file_known, below_known}
use Rattle.cf_elab_env.proofs.env.Env.find_in_file.Goals as goal

pub entity-requires : goal.entity-requires
entity-requires c =
    let env = env_seen c.self.inside in
    subst (λ (e : Env). c.number.result < length e.entities) c.self.view_is
    (below_known (length env.entities) c.find_in_file.result _ c.in_ok-id.id c.number.result
    (file_known (length env.entities) c.args.name.now env.scopes c.self.invariant.outer c.self.invariant.inner) c.find_in_file.ensures c.in_ok-id.was c.number.ensures)
