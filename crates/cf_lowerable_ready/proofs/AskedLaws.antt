-- What is asked of actions, by its parts.
use Rattle.std.proofs.Common.{◌≡◌, ℕ, Bool, true, false, ◌&&◌, Option, Some, None, sym, ap, ◌∙◌}
use Rattle.std.specs.Option.{option_map}
use Rattle.cf_core.specs.FromTypes.{Tables, type_of}
use Rattle.cf_core.specs.Types.{SourceType, type_eq}
use Rattle.cf_lower_kept.specs.Ready.{names_well, names_well_if, is_the_type}

-- ---- a local, if it is there

module _ (tables : Tables) (o : Option ℕ) (p : Option SourceType) (is : option_map (type_of tables) o ≡ p) where
  pub local_well : (t : ℕ) (b : Bool) → o ≡ Some t → b ≡ names_well (type_of tables t) → b ≡ names_well_if p
  local_well t b some e = e ∙ ap names_well_if (sym (ap (option_map (type_of tables)) some) ∙ is)

  pub local_gone : o ≡ None → true ≡ names_well_if p
  local_gone none = ap names_well_if (sym (ap (option_map (type_of tables)) none) ∙ is)

  pub type_there : (t : ℕ) (u : SourceType) (b : Bool) → o ≡ Some t → b ≡ type_eq (type_of tables t) u → b ≡ is_the_type p u
  type_there t u b some e = e ∙ ap (λ q. is_the_type q u) (sym (ap (option_map (type_of tables)) some) ∙ is)

  pub type_gone : (u : SourceType) → o ≡ None → false ≡ is_the_type p u
  type_gone u none = ap (λ q. is_the_type q u) (sym (ap (option_map (type_of tables)) none) ∙ is)

-- ---- two tests, one after the other

pub both_so : (a b c d : Bool) → c ≡ a → c ≡ true → d ≡ b → d ≡ (a && b)
both_so a b c d is sure e = e ∙ ap (λ f. f && b) (sym sure ∙ is)

pub first_not : (a b c : Bool) → c ≡ a → c ≡ false → false ≡ (a && b)
first_not a b c is not_so = ap (λ f. f && b) (sym not_so ∙ is)
