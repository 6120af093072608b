-- The steps of loops over lists that are tested, or whose names are put among others.
use Rattle.std.proofs.Common.{◌≡◌, ℕ, ◌+◌, ◌<◌, ◌≤◌, Bool, true, false, List, [], ◌∷◌, ◌&&◌, ◌||◌, length, drop, get_or, refl, sym, ap, ◌∙◌}
use Rattle.std.proofs.lemmas.List.{at_drop_all}
use Rattle.cf_lower_held.proofs.Forgotten.{drop_item}

-- ---- a test that asks something of each item

module _ {A : Type 0} (g : List A → Bool) (here : A → Bool) (all : List A) (i : ℕ) where
  module _ (x : A) (step : (y : A) (ys : List A) → g (y ∷ ys) ≡ (here y && g ys)) (within : i < length all) (is : x ≡ get_or all i x) (whole : Bool) (b : Bool)
      (told : b ≡ here x) (so_far : g (drop i all) ≡ whole) where
    here_by : (b && g (drop (i + 1) all)) ≡ whole
    here_by = ap (λ c. c && g (drop (i + 1) all)) told ∙ sym (step x (drop (i + 1) all)) ∙ sym (ap g (drop_item all i x within is)) ∙ so_far

    -- it holds of this item
    pub passed : b ≡ true → g (drop (i + 1) all) ≡ whole
    passed e = sym (ap (λ c. c && g (drop (i + 1) all)) e) ∙ here_by

    -- it does not
    pub failed : b ≡ false → false ≡ whole
    failed e = sym (ap (λ c. c && g (drop (i + 1) all)) e) ∙ here_by

  pub ended : g [] ≡ true → (whole : Bool) → length all ≤ i → g (drop i all) ≡ whole → true ≡ whole
  ended none whole past so_far = sym none ∙ sym (at_drop_all g all i past) ∙ so_far

-- ---- what is asked of one name: whether it is one of those of each item, or stood there before

or_turned : (a b c : Bool) → (b || (a || c)) ≡ ((a || b) || c)
or_turned true true c = refl
or_turned true false c = refl
or_turned false b c = refl

module _ {A : Type 0} (g : List A → Bool) (here : A → Bool) (all : List A) (i : ℕ) where
  pub put : (x : A) → ((y : A) (ys : List A) → g (y ∷ ys) ≡ (here y || g ys)) → i < length all → x ≡ get_or all i x → (old new whole : Bool) → new ≡ (here x || old)
      → (g (drop i all) || old) ≡ whole → (g (drop (i + 1) all) || new) ≡ whole
  put x step within is old new whole added so_far =
      let rest = g (drop (i + 1) all) in
      ap (λ b. rest || b) added ∙ or_turned (here x) rest old ∙ sym (ap (λ b. b || old) (step x (drop (i + 1) all)))
      ∙ sym (ap (λ l. g l || old) (drop_item all i x within is)) ∙ so_far

  pub all_put : g [] ≡ false → (old whole : Bool) → length all ≤ i → (g (drop i all) || old) ≡ whole → old ≡ whole
  all_put none old whole past so_far = sym (ap (λ b. b || old) none) ∙ sym (at_drop_all (λ l. g l || old) all i past) ∙ so_far
