-- Names that stand twice, found from the last one on.
use Rattle.std.proofs.Common.{◌≡◌, ℕ, ◌+◌, ◌-◌, ◌<◌, ◌≤◌, true, false, not, ◌&&◌, ◌||◌, List, [], ◌∷◌, length, drop, get_or, refl, ap, sym, ◌∙◌, arith}
use Rattle.std.specs.Prelude.{bytes_eq}
use Rattle.std.specs.List.{list_any}
use Rattle.std.proofs.lemmas.Cmp.{nat_list_eq_equiv}
use Rattle.cf_core.specs.Valid.{all_differ}
use Rattle.cf_name_list.specs.Names.{is_in}
use Rattle.cf_name_list.proofs.Differ.{twice}
use Rattle.cf_name_list.proofs.ListLaws.{left_is}

-- a name stands among others whichever is compared with which
either_way : (x : List ℕ) (xs : List (List ℕ)) → list_any (bytes_eq x) xs ≡ is_in xs x
either_way x [] = refl
either_way x (y ∷ xs) = ap (λ b. b || list_any (bytes_eq x) xs) (nat_list_eq_equiv.symm x y) ∙ ap (λ b. bytes_eq y x || b) (either_way x xs)

more : (x : List ℕ) (xs : List (List ℕ)) → all_differ (x ∷ xs) ≡ (not (is_in xs x) && all_differ xs)
more x xs = ap (λ b. not b && all_differ xs) (either_way x xs)

-- the names from an index on, and one more
module _ (all : List (List ℕ)) (left : ℕ) (name : List ℕ) (names : List (List ℕ)) (some : 0 < left) (within : left ≤ length all) (is : name ≡ get_or all (left - 1) name)
    (so_far : names ≡ drop left all) where
  one_before : drop (left - 1) all ≡ name ∷ drop left all
  one_before = left_is all (left - 1) name (omega arith) is ∙ ap (λ i. name ∷ drop i all) (let e : (left - 1) + 1 ≡ left = omega arith in e)

  pub one_twice : is_in names name ≡ true → false ≡ all_differ all
  one_twice there =
      sym (twice all_differ more (λ (l : List (List ℕ)). l) (λ (x : List ℕ). x) (λ x xs. refl) (λ i xs. refl) all left name some within is (ap (λ ns. is_in ns name) (sym so_far) ∙ there))

  pub one_more : (new : List (List ℕ)) → new ≡ name ∷ names → new ≡ drop (left - 1) all
  one_more new added = added ∙ ap (λ ns. name ∷ ns) so_far ∙ sym one_before

  pub still_differ : is_in names name ≡ false → all_differ (drop left all) ≡ true → all_differ (drop (left - 1) all) ≡ true
  still_differ new rest =
      ap all_differ one_before ∙ more name (drop left all)
      ∙ ap (λ b. not b && all_differ (drop left all)) (ap (λ ns. is_in ns name) (sym so_far) ∙ new) ∙ rest
