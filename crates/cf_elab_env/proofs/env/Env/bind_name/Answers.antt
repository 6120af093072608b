use Rattle.std.proofs.Common.{[], ◌∷◌, ◌++◌, sym, ap, ◌∙◌}
use Rattle.cf_elab_env.specs.SeenEnv.{env_seen}
use Rattle.cf_elab_env.specs.Shut as shut
use Rattle.cf_elab_env.proofs.Scoped.{bound_is}
use Rattle.cf_elab_env.proofs.env.Env.bind_name.Goals as goal

pub returns-clause-made : goal.returns-clause-made
returns-clause-made c =
    let env = env_seen c.self.inside in
    let name = c.args.name.now in
    ap (shut.bind_name name c.args.number) (sym c.self.view_is)
    ∙ bound_is env c.declare.new.self name c.args.number (c.in_ok-declare.ensures.declared ∙ ap (λ n. env.scopes.inner ++ (name, n) ∷ []) c.new.ensures) c.declare.ensures.outer
