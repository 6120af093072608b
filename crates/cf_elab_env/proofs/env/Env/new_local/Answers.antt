use Rattle.std.proofs.Common.{sym, ap, ◌∙◌}
use Rattle.cf_elab_env.specs.SeenEnv.{env_seen}
use Rattle.cf_elab_env.specs.Shut as shut
use Rattle.cf_elab_env.proofs.Scoped.{new_local_is}
use Rattle.cf_elab_env.proofs.env.Env.new_local.Goals as goal

pub returns-clause-made : goal.returns-clause-made
returns-clause-made c =
    ap (shut.new_local c.args.ty) (sym c.self.view_is)
    ∙ new_local_is (env_seen c.self.inside) c.args.ty c.in_ok-number.number c.take_local.new.self c.in_ok-number.ensures.number c.in_ok-number.ensures.state
