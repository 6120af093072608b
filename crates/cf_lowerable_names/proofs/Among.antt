-- Names among those of several lists.
use Rattle.std.proofs.Common.{◌≡◌, Bool, true, false, List, [], ◌∷◌, ◌++◌, ◌||◌, ◌&&◌, refl, sym, ap, ◌∙◌}
use Rattle.std.specs.Prelude.{bytes_eq}
use Rattle.std.specs.List.{flat_map, list_all}
use Rattle.std.proofs.lemmas.List.Folds.{list_any-append}
use Rattle.cc_whole.specs.Known.{is_in}
use Rattle.cf_core.specs.Types.{Name}

or_false : (b : Bool) → (b || false) ≡ b
or_false true = refl
or_false false = refl

module _ (q : Name) where
  pub in_both : (xs ys : List Name) → is_in (xs ++ ys) q ≡ (is_in xs q || is_in ys q)
  in_both xs ys = list_any-append (λ other. bytes_eq other q) xs ys

  -- of three lists, one after the other put in front of none
  pub in_three : (a b c x y z none : List Name) → none ≡ [] → is_in x q ≡ (is_in a q || is_in none q) → is_in y q ≡ (is_in b q || is_in x q)
      → is_in z q ≡ (is_in c q || is_in y q) → is_in z q ≡ (is_in c q || (is_in b q || is_in a q))
  in_three a b c x y z none empty first second third =
      third
      ∙ ap (λ v. is_in c q || v)
      (second ∙ ap (λ v. is_in b q || v) (first ∙ ap (λ l. is_in a q || is_in l q) empty ∙ or_false (is_in a q)))

  -- of items that give two lists each
  pub in_either : {A : Type 0} (f g : A → List Name) (xs : List A)
      → is_in (flat_map (λ x. f x ++ g x) xs) q ≡ (is_in (flat_map f xs) q || is_in (flat_map g xs) q)
  in_either f g [] = refl
  in_either f g (x ∷ xs) =
      in_both (f x ++ g x) (flat_map (λ y. f y ++ g y) xs) ∙ ap (λ b. b || is_in (flat_map (λ y. f y ++ g y) xs) q) (in_both (f x) (g x))
      ∙ ap (λ b. (is_in (f x) q || is_in (g x) q) || b) (in_either f g xs)
      ∙ turned (is_in (f x) q) (is_in (g x) q) (is_in (flat_map f xs) q) (is_in (flat_map g xs) q)
      ∙ sym (ap (λ b. b || is_in (flat_map g (x ∷ xs)) q) (in_both (f x) (flat_map f xs)) ∙ ap (λ b. (is_in (f x) q || is_in (flat_map f xs) q) || b) (in_both (g x) (flat_map g xs)))
    where
      turned : (a b c d : Bool) → ((a || b) || (c || d)) ≡ ((a || c) || (b || d))
      turned true b c d = refl
      turned false true true d = refl
      turned false true false d = refl
      turned false false c d = refl

-- tests that agree on each item agree on all
pub all_same : {A : Type 0} (p r : A → Bool) → ((x : A) → p x ≡ r x) → (xs : List A) → list_all p xs ≡ list_all r xs
all_same p r same [] = refl
all_same p r same (x ∷ xs) = ap (λ b. b && list_all p xs) (same x) ∙ ap (λ b. r x && b) (all_same p r same xs)
