use Rattle.std.proofs.Common.{◌≡◌, List, length, map, sym, ap, subst, ◌∙◌}
use Rattle.std.proofs.Math.ListN.{set}
use Rattle.std.proofs.lemmas.List.{map-set}
use Rattle.cf_elab.specs.Answer.{Made}
use Rattle.cf_elab.specs.Env.{Env, Entity}
use Rattle.cf_elab_env.specs.Holds.{IsEnv, IsEntity}
use Rattle.cf_elab_env.specs.Seen.{entity_seen}
use Rattle.cf_elab_env.specs.SeenEnv.{env_seen}
use Rattle.cf_elab_env.specs.Shut as shut
use Rattle.cf_elab_env.proofs.Scoped.{with_replaced, redeclared_is}
use Rattle.cf_elab_env.proofs.env.Env.redeclare.Goals as goal

pub invariant_of-self : goal.invariant_of-self
invariant_of-self c =
    let env = env_seen c.self.inside in
    let x = entity_seen c.args.entity in
    subst (λ (l : List Entity). IsEnv (record env { entities = l })) (sym (map-set entity_seen c.self.inside.entities.items c.args.number c.args.entity))
    (with_replaced env c.self.invariant c.args.number x (subst (λ (e : Env). IsEntity e.types (length e.entries) x) (sym c.self.view_is) c.requires.known))

pub returns-clause-made : goal.returns-clause-made
returns-clause-made c =
    let env = env_seen c.self.inside in
    let x = entity_seen c.args.entity in
    ap (shut.redeclare c.args.number x) (sym c.self.view_is) ∙ redeclared_is env c.args.number x
    ∙ ap (λ (l : List Entity). Made tt (record env { entities = l })) (sym (map-set entity_seen c.self.inside.entities.items c.args.number c.args.entity))
