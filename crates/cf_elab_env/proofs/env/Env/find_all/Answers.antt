use Rattle.std.proofs.Common.{rules, ◌≡◌, ◌<◌, ℕ, List, length, All, sym, subst}
use Rattle.cf_elab.specs.Env.{Env}
use Rattle.cf_lookup.specs.Scope.{all_found}
use Rattle.cf_elab_env.specs.SeenEnv.{env_seen}
use Rattle.cf_elab_env.proofs.Known.{all_found_known}
use Rattle.cf_elab_env.proofs.env.Env.find_all.Goals as goal

pub returns-clause-known : goal.returns-clause-known
returns-clause-known c =
    let env = env_seen c.self.inside in
    let found : c.in_ok-numbers.numbers.items ≡ all_found c.args.name.now env.scopes = search rules in
    let P : List ℕ → Type 0 = λ ns. All (λ n. n < length env.entities) ns in
    let Q : Env → Type 0 = λ (e : Env). All (λ n. n < length e.entities) c.in_ok-numbers.numbers.items in
    subst Q c.self.view_is (subst P (sym found) (all_found_known (length env.entities) c.args.name.now env.scopes c.self.invariant.outer c.self.invariant.inner))
