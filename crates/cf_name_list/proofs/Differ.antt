-- Names that stand twice, found from the last one on.
use Rattle.std.proofs.Common.{◌≡◌, ℕ, zero, suc, ◌+◌, ◌-◌, ◌<◌, ◌≤◌, Bool, true, false, not, ◌&&◌, List, [], ◌∷◌, length, drop, get_or, refl, ap, sym, ◌∙◌, arith}
use Rattle.cf_name_list.specs.Names.{is_in}
use Rattle.cf_name_list.proofs.ListLaws.{left_is}

and_right : (a b : Bool) → (a && b) ≡ true → b ≡ true
and_right true b e = e
and_right false b e = absurd (cc)

-- what a crate calls names that differ: each is none of those behind it
module _ (differ : List (List ℕ) → Bool) (more : (x : List ℕ) (xs : List (List ℕ)) → differ (x ∷ xs) ≡ (not (is_in xs x) && differ xs)) where
  differ-drop : (i : ℕ) (names : List (List ℕ)) → differ names ≡ true → differ (drop i names) ≡ true
  differ-drop zero names e = e
  differ-drop (suc i) [] e = e
  differ-drop (suc i) (x ∷ names) e = differ-drop i names (and_right (not (is_in names x)) (differ names) (sym (more x names) ∙ e))

  module _ {A : Type 0} (names : List A → List (List ℕ)) (name : A → List ℕ) (cons : (x : A) (xs : List A) → names (x ∷ xs) ≡ name x ∷ names xs)
      (rest : (i : ℕ) (xs : List A) → names (drop i xs) ≡ drop i (names xs))
      (all : List A) (left : ℕ) (x : A) (some : 0 < left) (within : left ≤ length all) (is : x ≡ get_or all (left - 1) x) where
    -- the names from the one before on
    one_before : names (drop (left - 1) all) ≡ name x ∷ names (drop left all)
    one_before =
        ap names (left_is all (left - 1) x (omega arith) is) ∙ cons x (drop ((left - 1) + 1) all)
        ∙ ap (λ i. name x ∷ names (drop i all)) (let e : (left - 1) + 1 ≡ left = omega arith in e)

    pub twice : is_in (names (drop left all)) (name x) ≡ true → differ (names all) ≡ false
    twice there = by (differ (names all)) refl
      where
        here : differ (names (drop (left - 1) all)) ≡ false
        here = ap differ one_before ∙ more (name x) (names (drop left all)) ∙ ap (λ b. not b && differ (names (drop left all))) there

        by : (b : Bool) → differ (names all) ≡ b → differ (names all) ≡ false
        by true e = let bad : true ≡ false = sym (differ-drop (left - 1) (names all) e) ∙ ap differ (sym (rest (left - 1) all)) ∙ here in absurd (cc)
        by false e = e
