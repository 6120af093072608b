use Rattle.std.proofs.Common.{◌<◌, length, refl, sym, ap, subst, ◌∙◌}
use Rattle.std.proofs.lemmas.List.{length-map}
use Rattle.std.proofs.lemmas.Option.{slice_get_read}
use Rattle.cf_elab.specs.Env.{Env}
use Rattle.cf_elab_env.specs.Holds.{IsEntity}
use Rattle.cf_elab_env.specs.Seen.{entity_seen}
use Rattle.cf_elab_env.specs.SeenEnv.{env_seen}
use Rattle.cf_elab_env.proofs.Known.{seen_known}
use Rattle.cf_elab_env.proofs.env.Env.entity.Goals as goal

pub returns-clause-known : goal.returns-clause-known
returns-clause-known c =
    let env = env_seen c.self.inside in
    let items = c.self.inside.entities.items in
    let within : c.args.number < length items =
    subst (λ n. c.args.number < n) (ap (λ (e : Env). length e.entities) (sym c.self.view_is) ∙ length-map items entity_seen) c.requires in
    subst (λ (e : Env). IsEntity e.types (length e.entries) (entity_seen c.index.result.now)) c.self.view_is
    (seen_known entity_seen (IsEntity env.types (length env.entries)) items c.args.number c.index.result.now c.self.invariant.entities
    (slice_get_read items (length items) c.args.number c.index.result.now refl within c.index.ensures))
