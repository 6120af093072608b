-- Link names of objects with linkage.
use Rattle.std.proofs.Common.{◌≡◌, ℕ, true, false, if◌then◌else◌, List, ◌++◌, sym, ap, ◌∙◌}
use Rattle.std.specs.Prelude.{codes}
use Rattle.cf_elab_objects.specs.Links.Known.{is_known}
use Rattle.cf_elab_objects.specs.Links.Shut as shut

pub known_name : (name link : List ℕ) → is_known name ≡ true → link ≡ name ++ codes "__g" → link ≡ shut.variable_link name
unfolding shut.variable_link is_known
known_name name link is h = h ∙ sym (ap (λ b. if b then name ++ codes "__g" else name) is)

pub other_name : (name link : List ℕ) → is_known name ≡ false → link ≡ name → link ≡ shut.variable_link name
unfolding shut.variable_link is_known
other_name name link is h = h ∙ sym (ap (λ b. if b then name ++ codes "__g" else name) is)

pub ruleset variable_laws = (known_name, other_name)
