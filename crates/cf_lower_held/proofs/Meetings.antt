-- What a register holds that holds this or that, by what both are.
use Rattle.std.proofs.Common.{◌≡◌, ℕ, Bool, true, false, ◌==◌, if◌then◌else◌, Option, Some, None, refl, sym, ap, ◌∙◌}
use Rattle.std.specs.Option.{option_map}
use Rattle.std.proofs.Common.{arith}
use Rattle.std.proofs.lemmas.Bool.Decides.{nat_tests}
use Rattle.cf_core.specs.FromTypes.{Tables}
use Rattle.cf_core.specs.Types.{SourceType, type_eq}
use Rattle.cf_lower_layout.specs.Sorts.{number, address, code}
use Rattle.cf_lower.specs.Kept.{Kept, unknown, integer_of, holds, argument, both_kept}
use Rattle.cf_lower_types.specs.declared.place.PlaceType.{PlaceType}
use Rattle.cf_lower_types.specs.Bare.{type_in}
use Rattle.cf_lower_held.specs.Holds.{place_type}

pub nothing_both : (k : Kept) → unknown ≡ both_kept unknown k
nothing_both unknown = refl
nothing_both (integer_of f) = refl
nothing_both (holds s) = refl
nothing_both (argument i t) = refl

-- ---- one of two, by a test

pub chosen_same : (x : Kept) (b c : Bool) → c ≡ b → c ≡ true → x ≡ (if b then x else unknown)
chosen_same x true c e t = refl
chosen_same x false c e t = cc

pub chosen_other : (x : Kept) (b c : Bool) → c ≡ b → c ≡ false → unknown ≡ (if b then x else unknown)
chosen_other x true c e t = cc
chosen_other x false c e t = refl

-- ---- addresses

some_same : (a b : SourceType) → Some a ≡ Some b → a ≡ b
some_same a b e = cc

module _ (t : SourceType) where
  met_address : (k : Kept) (u : SourceType) → Some u ≡ place_type k → both_kept (holds (address t)) k ≡ (if type_eq t u then holds (address t) else unknown)
  met_address unknown u e = cc
  met_address (integer_of f) u e = cc
  met_address (holds (number l)) u e = cc
  met_address (holds (address v)) u e = ap (λ w. if type_eq t w then holds (address t) else unknown) (sym (some_same u v e))
  met_address (holds (code v)) u e = cc
  met_address (argument i v) u e = cc

  met_other : (k : Kept) → None ≡ place_type k → both_kept (holds (address t)) k ≡ unknown
  met_other unknown e = refl
  met_other (integer_of f) e = refl
  met_other (holds (number l)) e = refl
  met_other (holds (address v)) e = cc
  met_other (holds (code v)) e = refl
  met_other (argument i v) e = refl

module _ (tables : Tables) (p : PlaceType) (k : Kept) (o : Option PlaceType) (is : option_map (type_in tables) o ≡ place_type k) where
  pub places_same : (q : PlaceType) (c : Bool) (h : Kept) → o ≡ Some q → c ≡ type_eq (type_in tables p) (type_in tables q) → c ≡ true
      → h ≡ holds (address (type_in tables p)) → h ≡ both_kept (holds (address (type_in tables p))) k
  places_same q c h some same so made =
      made ∙ chosen_same (holds (address (type_in tables p))) _ c same so
      ∙ sym (met_address (type_in tables p) k (type_in tables q) (sym (ap (option_map (type_in tables)) some) ∙ is))

  pub places_differ : (q : PlaceType) (c : Bool) → o ≡ Some q → c ≡ type_eq (type_in tables p) (type_in tables q) → c ≡ false
      → unknown ≡ both_kept (holds (address (type_in tables p))) k
  places_differ q c some same not_so =
      chosen_other (holds (address (type_in tables p))) _ c same not_so
      ∙ sym (met_address (type_in tables p) k (type_in tables q) (sym (ap (option_map (type_in tables)) some) ∙ is))

  pub no_place : o ≡ None → unknown ≡ both_kept (holds (address (type_in tables p))) k
  no_place none = sym (met_other (type_in tables p) k (sym (ap (option_map (type_in tables)) none) ∙ is))

-- ---- the objects of arguments

module _ (i j : ℕ) (t u : SourceType) where
  same_index : i ≡ j → (i == j) ≡ true
  same_index e = grind (arith, nat_tests)

  other_index : (i ≡ j → ⊥) → (i == j) ≡ false
  other_index e = grind (arith, nat_tests)

  pub arguments_same : (c : Bool) → i ≡ j → c ≡ type_eq t u → c ≡ true → argument i t ≡ both_kept (argument i t) (argument j u)
  arguments_same c e is so = rw (same_index e) (chosen_same (argument i t) (type_eq t u) c is so)

  pub arguments_differ : (c : Bool) → i ≡ j → c ≡ type_eq t u → c ≡ false → unknown ≡ both_kept (argument i t) (argument j u)
  arguments_differ c e is not_so = rw (same_index e) (chosen_other (argument i t) (type_eq t u) c is not_so)

  pub other_argument : (i ≡ j → ⊥) → unknown ≡ both_kept (argument i t) (argument j u)
  other_argument e = rw (other_index e) refl
