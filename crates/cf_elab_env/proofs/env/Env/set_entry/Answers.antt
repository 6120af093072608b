use Rattle.std.proofs.Common.{◌<◌, List, length, sym, ap, subst, ◌∙◌}
use Rattle.cf_elab.specs.Env.{Env, FunctionEntry}
use Rattle.cf_elab_env.specs.Entries.{HasName}
use Rattle.cf_elab_env.specs.Holds.{IsEnv, IsEntry}
use Rattle.cf_elab_env.specs.SeenEnv.{env_seen}
use Rattle.cf_elab_env.specs.Shut as shut
use Rattle.cf_elab_env.proofs.Scoped.{with_set_entry, set_entry_is}
use Rattle.cf_elab_env.proofs.env.Env.set_entry.Goals as goal

pub set-requires-clause-place : goal.set-requires-clause-place
set-requires-clause-place c = subst (λ (e : Env). c.args.number < length e.entries) (sym c.self.view_is) c.requires.place

pub set-requires-clause-name : goal.set-requires-clause-name
set-requires-clause-name c = subst (λ (e : Env). HasName e.entries c.args.number c.args.entry.name) (sym c.self.view_is) c.requires.name

pub invariant_of-self : goal.invariant_of-self
invariant_of-self c =
    let env = env_seen c.self.inside in
    subst (λ (l : List FunctionEntry). IsEnv (record env { entries = l })) (sym c.set.ensures)
    (with_set_entry env c.self.invariant c.args.number c.args.entry (subst (λ (e : Env). IsEntry e.types c.args.entry) (sym c.self.view_is) c.requires.known))

pub returns-clause-made : goal.returns-clause-made
returns-clause-made c =
    ap (shut.set_entry c.args.number c.args.entry) (sym c.self.view_is)
    ∙ set_entry_is (env_seen c.self.inside) c.args.number c.args.entry c.set.new.self c.set.ensures
