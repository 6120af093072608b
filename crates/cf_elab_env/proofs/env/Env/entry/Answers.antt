use Rattle.std.proofs.Common.{◌≡◌, ◌<◌, length, Some, slice_get, sym, subst}
use Rattle.cf_elab.specs.Env.{Env, FunctionEntry}
use Rattle.cf_elab_env.specs.Holds.{IsEntry}
use Rattle.cf_elab_env.specs.SeenEnv.{env_seen}
use Rattle.cf_elab_env.proofs.Known.{get_known}
use Rattle.cf_elab_env.proofs.env.Env.entry.Goals as goal

pub get-requires : goal.get-requires
get-requires c = subst (λ (e : Env). c.args.number < length e.entries) (sym c.self.view_is) c.requires

pub returns-clause-value : goal.returns-clause-value
returns-clause-value c = subst (λ (e : Env). slice_get e.entries c.args.number ≡ Some c.get.result.now) c.self.view_is c.get.ensures

pub returns-clause-known : goal.returns-clause-known
returns-clause-known c =
    let env = env_seen c.self.inside in
    subst (λ (e : Env). IsEntry e.types c.get.result.now) c.self.view_is
    (get_known (λ (f : FunctionEntry). IsEntry env.types f) env.entries c.args.number c.get.result.now c.self.invariant.entries c.get.ensures)
