use Rattle.std.proofs.Common.{◌≡◌, List, [], ◌∷◌, ◌++◌, length, map, sym, ap, subst, ◌∙◌}
use Rattle.std.proofs.lemmas.List.{map-append, length-map}
use Rattle.cf_elab.specs.Env.{Env}
use Rattle.cf_elab_env.specs.Holds.{IsEntity}
use Rattle.cf_elab_env.specs.Seen.{entity_seen}
use Rattle.cf_elab_env.specs.SeenEnv.{env_seen}
use Rattle.cf_elab_env.specs.Shut as shut
use Rattle.cf_elab_env.proofs.Scoped.{declared_is, declared_holds, entity_holds}
use Rattle.cf_elab_env.proofs.env.Env.declare.Goals as goal

pub invariant_of-self-in_err-declare : goal.invariant_of-self-in_err-declare
invariant_of-self-in_err-declare c =
    let env = env_seen c.self.inside in
    let x = entity_seen c.args.entity in
    entity_holds env c.self.invariant x c.declare.new.self _ (subst (λ (e : Env). IsEntity e.types (length e.entries) x) (sym c.self.view_is) c.requires)
    (ap (map entity_seen) c.in_ok-push.ensures.items ∙ map-append entity_seen c.self.inside.entities.items (c.args.entity ∷ [])) c.in_err-declare.ensures.err

pub invariant_of-self-2 : goal.invariant_of-self-2
invariant_of-self-2 c =
    let env = env_seen c.self.inside in
    let x = entity_seen c.args.entity in
    declared_holds env c.self.invariant c.args.name.now x c.new.result c.declare.new.self _ (subst (λ (e : Env). IsEntity e.types (length e.entries) x) (sym c.self.view_is) c.requires)
    (ap (map entity_seen) c.in_ok-push.ensures.items ∙ map-append entity_seen c.self.inside.entities.items (c.args.entity ∷ []))
    (c.new.ensures ∙ c.in_ok-number.ensures ∙ c.len.ensures ∙ c.self.inside.entities.ok.0 ∙ sym (length-map c.self.inside.entities.items entity_seen)) c.in_ok-declare.ensures.declared c.declare.ensures.outer

pub returns-clause-made : goal.returns-clause-made
returns-clause-made c =
    let env = env_seen c.self.inside in
    let x = entity_seen c.args.entity in
    ap (shut.declare c.args.name.now x) (sym c.self.view_is)
    ∙ declared_is env c.declare.new.self c.args.name.now x c.new.result _
    (ap (map entity_seen) c.in_ok-push.ensures.items ∙ map-append entity_seen c.self.inside.entities.items (c.args.entity ∷ []))
    (c.new.ensures ∙ c.in_ok-number.ensures ∙ c.len.ensures ∙ c.self.inside.entities.ok.0 ∙ sym (length-map c.self.inside.entities.items entity_seen)) c.in_ok-declare.ensures.declared c.declare.ensures.outer
