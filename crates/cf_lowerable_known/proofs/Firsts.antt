-- A known value that is stored at a known place.
use Rattle.std.proofs.Common.{◌≡◌, ℕ, Bool, true, false, ◌&&◌, sym, ap, ◌∙◌}
use Rattle.cf_core.specs.FromTypes.{Tables}
use Rattle.cf_plain.specs.Plain.{Register, first}
use Rattle.cf_lower.specs.Constants.{Known}
use Rattle.cf_lower_constants.specs.declared.known.Known.{Known as CodeKnown}
use Rattle.cf_lower_constants.specs.Knowing.{known_in}
use Rattle.cf_lower_program.specs.Starts.{act_known, is_known, starts_well}

module _ (tables : Tables) (g : Register → Known) (r q : ℕ) (k : CodeKnown) (at : known_in tables k ≡ g r) (a : Bool) (there : a ≡ is_known (known_in tables k)) where
  pub not_there : a ≡ false → false ≡ act_known g (first r q)
  not_there none = sym (ap (λ v. (v && is_known (g q)) && starts_well (g r) (g q)) (sym (there ∙ ap is_known at) ∙ none))

  module _ (yes : a ≡ true) (h : CodeKnown) (given : known_in tables h ≡ g q) (b : Bool) (is : b ≡ is_known (known_in tables h)) where
    by_there : (is_known (g q) && starts_well (g r) (g q)) ≡ act_known g (first r q)
    by_there = sym (ap (λ v. (v && is_known (g q)) && starts_well (g r) (g q)) (sym (there ∙ ap is_known at) ∙ yes))

    pub not_given : b ≡ false → false ≡ act_known g (first r q)
    not_given none = sym (ap (λ v. v && starts_well (g r) (g q)) (sym (is ∙ ap is_known given) ∙ none)) ∙ by_there

    pub well_there : (d : Bool) → b ≡ true → d ≡ starts_well (known_in tables k) (known_in tables h) → d ≡ act_known g (first r q)
    well_there d so well =
        well ∙ ap (λ v. starts_well v (known_in tables h)) at ∙ ap (starts_well (g r)) given
        ∙ sym (ap (λ v. v && starts_well (g r) (g q)) (sym (is ∙ ap is_known given) ∙ so)) ∙ by_there
