use Rattle.std.proofs.Common.{◌≡◌, ◌<◌, length, false, None, Some, slice_get, refl, sym, ap, subst, ◌∙◌}
use Rattle.std.specs.Option.{option_map, option_copied}
use Rattle.cf_elab.specs.Env.{Env}
use Rattle.cf_elab.specs.Paths.{found_alone, entity as entity_found}
use Rattle.cf_elab_env.specs.Seen.{entity_seen}
use Rattle.cf_elab_env.specs.SeenEnv.{env_seen}
use Rattle.cf_elab_env.proofs.Finding.{find-seen}
use Rattle.cf_elab_env.proofs.Known.{any_known, below_known}
use Rattle.cf_elab_env.proofs.env.Env.find.Goals as goal

pub returns-in_err-id-clause-value : goal.returns-in_err-id-clause-value
returns-in_err-id-clause-value c =
    let env = env_seen c.self.inside in
    let P : Env → Type 0 = λ (e : Env). found_alone e false c.args.name.now ≡ entity_found (option_map entity_seen (option_copied c.from_residual.result)) in
    subst P c.self.view_is
    (find-seen env c.args.name.now None _ c.self.invariant.no_open_class c.self.invariant.hand.no_class (sym c.in_err-id.was ∙ c.find.ensures)
    (ap (λ r. option_map entity_seen (option_copied r)) (sym c.from_residual.ensures)))

pub entity-requires : goal.entity-requires
entity-requires c =
    let env = env_seen c.self.inside in
    subst (λ (e : Env). c.number.result < length e.entities) c.self.view_is
    (below_known (length env.entities) c.find.result _ c.in_ok-id.id c.number.result
    (any_known (length env.entities) c.args.name.now env.scopes c.self.invariant.outer c.self.invariant.inner) c.find.ensures c.in_ok-id.was c.number.ensures)

pub returns-clause-value : goal.returns-clause-value
returns-clause-value c =
    let env = env_seen c.self.inside in
    let P : Env → Type 0 = λ (e : Env). found_alone e false c.args.name.now ≡ entity_found (Some (entity_seen c.entity.result.now)) in
    subst P c.self.view_is
    (find-seen env c.args.name.now (Some c.in_ok-id.id) _ c.self.invariant.no_open_class c.self.invariant.hand.no_class (sym c.in_ok-id.was ∙ c.find.ensures)
    (ap (slice_get env.entities) (sym c.number.ensures) ∙ ap (λ (e : Env). slice_get e.entities c.number.result) c.self.view_is ∙ c.entity.ensures.value))
