use Rattle.std.proofs.Common.{◌≡◌, ◌<◌, ◌^◌, length, All, sym, ap, subst, ◌∙◌}
use Rattle.cf_types.specs.Table.{Table, fun_parts, AreParameters}
use Rattle.cf_elab.specs.Env.{Env}
use Rattle.cf_elab_env.specs.Holds.{Grows}
use Rattle.cf_elab_env.specs.SeenEnv.{env_seen}
use Rattle.cf_elab_env.specs.Shut as shut
use Rattle.cf_elab_env.proofs.Interned.{interned_fun, with_fun, fun_entered-grows}
use Rattle.cf_elab_env.proofs.env.Env.intern_fun.Goals as goal

pub invariant_of-self-2 : goal.invariant_of-self-2
invariant_of-self-2 c =
    let env = env_seen c.self.inside in
    let place = c.in_ok-id.id in
    let small : place < 2 ^ 32 = subst (λ n. n < 2 ^ 32) c.number-place.ensures c.number-place.type_inv in
    let back = sym (ap (λ (e : Env). e.types) c.self.view_is) in
    with_fun env c.intern_fun.new.self c.self.invariant c.args.fun place c.in_ok-id.ensures.ok c.intern_fun.ensures.types small
    (subst (λ (t : Table). All (λ p. p < length t.types) (fun_parts c.args.fun)) back c.requires.known)
    (subst (λ (t : Table). AreParameters t.types c.args.fun.params) back c.requires.parameters)

pub returns-clause-made : goal.returns-clause-made
returns-clause-made c =
    let env = env_seen c.self.inside in
    let made = interned_fun env c.intern_fun.new.self c.args.fun c.in_ok-id.id c.in_ok-id.ensures.ok c.intern_fun.ensures.types in
    ap (shut.intern_fun c.args.fun) (sym c.self.view_is) ∙ made

pub returns-clause-grows : goal.returns-clause-grows
returns-clause-grows c =
    let env = env_seen c.self.inside in
    subst (λ (e : Env). Grows e.types c.intern_fun.new.self) c.self.view_is
    (fun_entered-grows env.types c.intern_fun.new.self c.args.fun c.in_ok-id.id c.in_ok-id.ensures.ok c.intern_fun.ensures.types c.self.invariant.table)
