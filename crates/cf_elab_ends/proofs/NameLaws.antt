-- Names that stand twice, found from the last one on.
use Rattle.std.proofs.Common.{◌≡◌, ℕ, ◌+◌, ◌-◌, ◌<◌, ◌≤◌, true, false, not, ◌&&◌, ◌||◌, List, [], ◌∷◌, length, drop, get_or, refl, ap, sym, ◌∙◌, arith}
use Rattle.std.specs.Prelude.{bytes_eq}
use Rattle.std.specs.Borrow.{Bor}
use Rattle.std.specs.List.{list_any}
use Rattle.std.proofs.lemmas.Cmp.{nat_list_eq_equiv}
use Rattle.std.proofs.lemmas.List.{drop-map, get_or_default}
use Rattle.cf_core.specs.Valid.{all_differ}
use Rattle.cf_name_list.specs.Names.{is_in}
use Rattle.cf_name_list.proofs.Differ.{twice}
use Rattle.cf_name_list.proofs.ListLaws.{left_is}
use Rattle.cf_elab_ends.specs.Linked.{seen}

-- a name stands among others whichever is compared with which
either_way : (x : List ℕ) (xs : List (List ℕ)) → list_any (bytes_eq x) xs ≡ is_in xs x
either_way x [] = refl
either_way x (y ∷ xs) = ap (λ b. b || list_any (bytes_eq x) xs) (nat_list_eq_equiv.symm x y) ∙ ap (λ b. bytes_eq y x || b) (either_way x xs)

more : (x : List ℕ) (xs : List (List ℕ)) → all_differ (x ∷ xs) ≡ (not (is_in xs x) && all_differ xs)
more x xs = ap (λ b. not b && all_differ xs) (either_way x xs)

seen-rest : (i : ℕ) (xs : List (Bor (List ℕ))) → seen (drop i xs) ≡ drop i (seen xs)
seen-rest i xs = sym (drop-map (λ n. n.now) i xs)

-- the names from an index on, and one more
module _ (all : List (Bor (List ℕ))) (left : ℕ) (d : Bor (List ℕ)) (names : List (List ℕ)) (some : 0 < left) (within : left ≤ length all) (so_far : names ≡ seen (drop left all)) where
  abbrev name : Bor (List ℕ)
  name = get_or all (left - 1) d

  read : name ≡ get_or all (left - 1) name
  read = get_or_default all (left - 1) d name (omega arith)

  one_before : seen (drop (left - 1) all) ≡ name.now ∷ seen (drop left all)
  one_before =
      ap seen (left_is all (left - 1) name (omega arith) read) ∙ ap (λ i. name.now ∷ seen (drop i all)) (let e : (left - 1) + 1 ≡ left = omega arith in e)

  pub one_twice : is_in names name.now ≡ true → false ≡ all_differ (seen all)
  one_twice there = sym (twice all_differ more seen (λ n. n.now) (λ x xs. refl) seen-rest all left name some within read (ap (λ ns. is_in ns name.now) (sym so_far) ∙ there))

  pub one_more : (new : List (List ℕ)) → new ≡ name.now ∷ names → new ≡ seen (drop (left - 1) all)
  one_more new added = added ∙ ap (λ ns. name.now ∷ ns) so_far ∙ sym one_before

  pub still_differ : is_in names name.now ≡ false → all_differ (seen (drop left all)) ≡ true → all_differ (seen (drop (left - 1) all)) ≡ true
  still_differ new rest =
      ap all_differ one_before ∙ more name.now (seen (drop left all))
      ∙ ap (λ b. not b && all_differ (seen (drop left all))) (ap (λ ns. is_in ns name.now) (sym so_far) ∙ new) ∙ rest
