use Rattle.std.proofs.Common.{sym, ap, ◌∙◌}
use Rattle.cf_elab_env.specs.SeenEnv.{env_seen}
use Rattle.cf_elab_env.specs.Shut as shut
use Rattle.cf_elab_env.proofs.Scoped.{define_static_is}
use Rattle.cf_elab_env.proofs.env.Env.add_static.Goals as goal

pub returns-clause-made : goal.returns-clause-made
returns-clause-made c =
    ap (shut.define_static c.args.object) (sym c.self.view_is) ∙ define_static_is (env_seen c.self.inside) c.args.object c.push.new.self c.in_ok-push.ensures.ok
