use Rattle.std.proofs.Common.{refl, sym, ap, ◌∙◌}
use Rattle.cf_elab_env.specs.SeenEnv.{env_seen}
use Rattle.cf_elab_env.specs.Shut as shut
use Rattle.cf_elab_env.proofs.Scoped.{with_enum, new_enum_is}
use Rattle.cf_elab_env.proofs.env.Env.new_enum.Goals as goal

pub invariant_of-self-2 : goal.invariant_of-self-2
invariant_of-self-2 c = with_enum (env_seen c.self.inside) c.self.invariant _ refl c.declare_enum.new.self c.in_ok-number.ensures.enums c.declare_enum.ensures.defined

pub returns-clause-made : goal.returns-clause-made
returns-clause-made c =
    ap (shut.new_enum c.args.name) (sym c.self.view_is)
    ∙ new_enum_is (env_seen c.self.inside) c.declare_enum.new.self c.args.name c.in_ok-number.number refl c.in_ok-number.ensures.next c.in_ok-number.ensures.enums
    c.declare_enum.ensures.labels c.declare_enum.ensures.defined
