-- What is known of what is converted, by what it is converted to.
use Rattle.std.proofs.Common.{◌≡◌, List, Option, Some, sym, ap, ◌∙◌}
use Rattle.std.specs.Option.{option_map}
use Rattle.cf_core.specs.Classes.{Class}
use Rattle.cf_core.specs.FromTypes.{Tables}
use Rattle.cf_core.specs.Types.{SourceType}
use Rattle.cf_lower_layout.specs.Sorts.{Sort, address}
use Rattle.cf_lower.specs.Constants.{Known, converted_known}
use Rattle.cf_lower_types.specs.Bare.{sort_in}
use Rattle.cf_lower_types.specs.declared.scalar.Scalar.{Scalar}
use Rattle.cf_lower_constants.specs.declared.known.Known.{Known as CodeKnown}
use Rattle.cf_lower_constants.specs.Knowing.{known_in}

module _ (tables : Tables) (cs : List Class) (k made : Known) where
  pub as_place : (t u : SourceType) → t ≡ u → made ≡ converted_known cs (Some (address t)) k → made ≡ converted_known cs (Some (address u)) k
  as_place t u same is = is ∙ ap (λ v. converted_known cs (Some (address v)) k) same

  pub as_scalar : (s r : Scalar) → s ≡ r → made ≡ converted_known cs (Some (sort_in tables r)) k → made ≡ converted_known cs (Some (sort_in tables s)) k
  as_scalar s r same is = is ∙ sym (ap (λ v. converted_known cs (Some (sort_in tables v)) k) same)

  pub as_some : (o : Option Scalar) (s : Scalar) → o ≡ Some s → made ≡ converted_known cs (Some (sort_in tables s)) k
      → made ≡ converted_known cs (option_map (sort_in tables) o) k
  as_some o s some is = is ∙ sym (ap (λ v. converted_known cs (option_map (sort_in tables) v) k) some)

-- of what a register holds
module _ (tables : Tables) (cs : List Class) (a : CodeKnown) (x made : Known) (is : known_in tables a ≡ x) where
  pub held_as : (s t : Option Sort) → s ≡ t → made ≡ converted_known cs s (known_in tables a) → made ≡ converted_known cs t x
  held_as s t same given = given ∙ ap (λ v. converted_known cs v (known_in tables a)) same ∙ ap (converted_known cs t) is
