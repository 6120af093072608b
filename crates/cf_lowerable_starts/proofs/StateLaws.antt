-- What is known and set at once.
use Rattle.std.proofs.Common.{◌≡◌, ℕ, List, [], ◌∷◌, ap, ◌∙◌}
use Rattle.cf_plain.specs.Plain.{Register}
use Rattle.cf_lower_constants.specs.declared.site.Site.{Site}
use Rattle.cf_lower_program.specs.Alike.{Fact, Part, Told, no_fact, nothing_told, tell}
use Rattle.cf_lowerable_starts.specs.declared.parts.Part.{Part as CodePart}
use Rattle.cf_lowerable_starts.specs.declared.state.State.{State}
use Rattle.cf_lowerable_starts.specs.Telling.{details_in, part_in, parts_in, tells}
use Rattle.cf_lowerable_starts.proofs.DetailLaws.{none_told}

abbrev pub both : (Register → Fact) → List Part → Told
both facts parts = record { facts = facts; parts = parts }

module _ (x : Site) (s : State) where
  pub nothing : s.details.details.items ≡ [] → s.parts.items ≡ [] → tells x s ≡ nothing_told
  nothing details parts = ap (λ f. both f (parts_in s.parts.items)) (none_told x.tables.now s.details details) ∙ ap (λ l. both (λ r. no_fact) (parts_in l)) parts

  -- by what was known and set before
  module _ (old : State) where
    pub told_of : (r : ℕ) (f : Fact) → details_in x.tables.now s.details ≡ tell (details_in x.tables.now old.details) r f → s.parts.items ≡ old.parts.items
        → tells x s ≡ both (tell (tells x old).facts r f) (tells x old).parts
    told_of r f told same =
        ap (λ g. both g (parts_in s.parts.items)) told ∙ ap (λ l. both (tell (details_in x.tables.now old.details) r f) (parts_in l)) same

    pub set_of : (p : CodePart) → s.details ≡ old.details → parts_in s.parts.items ≡ part_in p ∷ parts_in old.parts.items
        → tells x s ≡ both (tells x old).facts (part_in p ∷ (tells x old).parts)
    set_of p same set =
        ap (λ d. both (details_in x.tables.now d) (parts_in s.parts.items)) same ∙ ap (both (details_in x.tables.now old.details)) set
