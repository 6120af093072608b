use Rattle.std.proofs.Common.{◌≡◌, ◌<◌, ◌^◌, length, IsTrue, sym, ap, subst, ◌∙◌}
use Rattle.cf_types.specs.Table.{Table, IsTable, Names, is_normal}
use Rattle.cf_elab.specs.Answer.{Answer, Made}
use Rattle.cf_elab.specs.Env.{Env}
use Rattle.cf_elab_env.specs.Holds.{EnumGiven, Grows}
use Rattle.cf_elab_env.specs.SeenEnv.{env_seen}
use Rattle.cf_elab_env.specs.Shut as shut
use Rattle.cf_elab_env.proofs.Interned.{interned, with_type, type_entered-grows}
use Rattle.cf_elab_env.proofs.env.Env.intern.Goals as goal

pub invariant_of-self-2 : goal.invariant_of-self-2
invariant_of-self-2 c =
    let env = env_seen c.self.inside in
    let place = c.in_ok-id.id in
    let small : place < 2 ^ 32 = subst (λ n. n < 2 ^ 32) c.number-place.ensures c.number-place.type_inv in
    let back = sym (ap (λ (e : Env). e.types) c.self.view_is) in
    with_type env c.intern.new.self c.self.invariant c.args.ty place c.in_ok-id.ensures.ok c.intern.ensures.funs small
    (subst (λ (t : Table). Names t.funs (length t.types) (length t.funs) c.args.ty) back c.requires.known)
    (subst (λ (t : Table). IsTrue (is_normal t.types c.args.ty)) back c.requires.normal) c.requires.no_class
    (subst (λ (e : Env). EnumGiven (length e.classes.enums) c.args.ty) (sym c.self.view_is) c.requires.enums)

pub returns-clause-made : goal.returns-clause-made
returns-clause-made c =
    let env = env_seen c.self.inside in
    let made = interned env c.intern.new.self c.args.ty c.in_ok-id.id c.in_ok-id.ensures.ok c.intern.ensures.funs in
    ap (shut.intern c.args.ty) (sym c.self.view_is) ∙ made

pub returns-clause-grows : goal.returns-clause-grows
returns-clause-grows c =
    let env = env_seen c.self.inside in
    subst (λ (e : Env). Grows e.types c.intern.new.self) c.self.view_is
    (type_entered-grows env.types c.intern.new.self c.args.ty c.in_ok-id.id c.in_ok-id.ensures.ok c.intern.ensures.funs c.self.invariant.table)
