use Rattle.std.proofs.Common.{ℕ, ◌<◌, List, length, All, sym, subst}
use Rattle.cf_elab.specs.Env.{Env}
use Rattle.cf_elab_env.proofs.NamedEntries.{numbers_known}
use Rattle.cf_elab_env.proofs.env.Env.entries_named.Goals as goal

pub returns-clause-known : goal.returns-clause-known
returns-clause-known c =
    let entries = c.self.inside.entries in
    let P : List ℕ → Type 0 = λ ns. All (λ n. n < length entries) ns in
    let Q : Env → Type 0 = λ (e : Env). All (λ n. n < length e.entries) c.in_ok-numbers.numbers.items in
    subst Q c.self.view_is (subst P (sym c.in_ok-numbers.ensures) (numbers_known c.args.name.now entries))
