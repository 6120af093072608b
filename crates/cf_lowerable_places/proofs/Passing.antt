-- The locals that are the objects of parameters of a call, one after the other.
use Rattle.std.proofs.Common.{◌≡◌, ℕ, suc, ◌+◌, ◌<◌, ◌≤◌, Bool, true, false, ◌&&◌, not, List, [], ◌∷◌, length, map, drop, get_or, refl, sym, ap, ◌∙◌}
use Rattle.std.proofs.lemmas.List.{at_drop_all}
use Rattle.cf_core.specs.Types.{SourceType, same_but_const}
use Rattle.cf_lower.specs.Kept.{Locals, type_of_local}
use Rattle.cf_lower_held.proofs.Forgotten.{drop_item}
use Rattle.cf_lower_place.specs.Calls.{is_passed, are_passed, types_passed}
use Rattle.cf_plain_frames.specs.Since.{is_among}

module _ (locals : Locals) where
  pub none_left : (rest all : List ℕ) → rest ≡ [] → are_passed locals rest ≡ are_passed locals all → true ≡ are_passed locals all
  none_left rest all none so_far = sym (ap (are_passed locals) none) ∙ so_far

  one_passed : (b c d : Bool) → (b && c) ≡ true → (b && (c && d)) ≡ d
  one_passed true true d e = refl
  one_passed true false d e = cc
  one_passed false c d e = cc

  pub one_more : (rest others all : List ℕ) (i : ℕ) (b : Bool) → rest ≡ i ∷ others → b ≡ (is_passed locals i && not (is_among i others)) → b ≡ true
      → are_passed locals rest ≡ are_passed locals all → are_passed locals others ≡ are_passed locals all
  one_more rest others all i b is e sure so_far =
      sym (one_passed (is_passed locals i) (not (is_among i others)) (are_passed locals others) (sym e ∙ sure)) ∙ sym (ap (are_passed locals) is) ∙ so_far

  not_one : (b c d : Bool) → (b && c) ≡ false → (b && (c && d)) ≡ false
  not_one true true d e = cc
  not_one true false d e = refl
  not_one false c d e = refl

  pub one_fails : (rest others all : List ℕ) (i : ℕ) (b : Bool) → rest ≡ i ∷ others → b ≡ (is_passed locals i && not (is_among i others)) → b ≡ false
      → are_passed locals rest ≡ are_passed locals all → false ≡ are_passed locals all
  one_fails rest others all i b is e not_so so_far =
      sym (not_one (is_passed locals i) (not (is_among i others)) (are_passed locals others) (sym e ∙ not_so)) ∙ sym (ap (are_passed locals) is) ∙ so_far

  -- ---- types

  module _ (f : ℕ → SourceType) where
    pub lengths_differ : (is ts : List ℕ) → (length is ≡ length ts → ⊥) → false ≡ types_passed locals is (map f ts)
    lengths_differ [] [] ne = absurd (ne refl)
    lengths_differ [] (t ∷ ts) ne = refl
    lengths_differ (i ∷ is) [] ne = refl
    lengths_differ (i ∷ is) (t ∷ ts) ne =
        and_false (same_but_const (type_of_local locals i) (f t)) (types_passed locals is (map f ts)) (lengths_differ is ts (λ e. ne (ap suc e)))
      where
        and_false : (b c : Bool) → false ≡ c → false ≡ (b && c)
        and_false true c e = e
        and_false false c e = refl

    -- what is left from a number on
    abbrev pub From : ℕ → List ℕ → List ℕ → Bool
    From n is ts = types_passed locals (drop n is) (map f (drop n ts))

    next : (n i t : ℕ) (is ts : List ℕ) → n < length is → n < length ts → i ≡ get_or is n i → t ≡ get_or ts n t
        → From n is ts ≡ (same_but_const (type_of_local locals i) (f t) && From (n + 1) is ts)
    next n i t is ts lt below at of =
        ap (λ l. types_passed locals l (map f (drop n ts))) (drop_item is n i lt at)
        ∙ ap (λ l. types_passed locals (i ∷ drop (n + 1) is) (map f l)) (drop_item ts n t below of)

    pub type_more : (n i t : ℕ) (is ts : List ℕ) (b whole : Bool) → n < length is → n < length ts → i ≡ get_or is n i → t ≡ get_or ts n t
        → b ≡ same_but_const (type_of_local locals i) (f t) → b ≡ true → From n is ts ≡ whole → From (n + 1) is ts ≡ whole
    type_more n i t is ts b whole lt below at of e sure so_far =
        ap (λ c. c && From (n + 1) is ts) (sym sure ∙ e) ∙ sym (next n i t is ts lt below at of) ∙ so_far

    pub type_fails : (n i t : ℕ) (is ts : List ℕ) (b whole : Bool) → n < length is → n < length ts → i ≡ get_or is n i → t ≡ get_or ts n t
        → b ≡ same_but_const (type_of_local locals i) (f t) → b ≡ false → From n is ts ≡ whole → false ≡ whole
    type_fails n i t is ts b whole lt below at of e not_so so_far =
        ap (λ c. c && From (n + 1) is ts) (sym not_so ∙ e) ∙ sym (next n i t is ts lt below at of) ∙ so_far

    pub types_all : (n : ℕ) (is ts : List ℕ) (whole : Bool) → length is ≤ n → length ts ≤ n → From n is ts ≡ whole → true ≡ whole
    types_all n is ts whole past over so_far =
        sym (at_drop_all (λ l. types_passed locals l (map f (drop n ts))) is n past ∙ at_drop_all (λ l. types_passed locals [] (map f l)) ts n over) ∙ so_far
