-- Lists in loops, and names whichever way round they stand.
use Rattle.std.proofs.Common.{◌≡◌, ℕ, suc, ◌+◌, ◌-◌, ◌<◌, ◌≤◌, Bool, true, false, ◌&&◌, List, [], ◌∷◌, ◌++◌, length, map, drop, get_or, refl, ap, sym, ◌∙◌, drop-cons, add-one, arith}
use Rattle.std.specs.Prelude.{reverse, bytes_eq}
use Rattle.std.specs.Borrow.{Bor}
use Rattle.std.specs.List.{list_all}
use Rattle.std.proofs.lemmas.List.{length-drop, drop-drop}
use Rattle.std.proofs.lemmas.List.Folds.{list_all-append}
use Rattle.std.proofs.lemmas.List.Sorted.{IsPermutation-reverse, list_any-IsPermutation}
use Rattle.std.proofs.lemmas.Grind.{reverse_onto}
use Rattle.cf_name_list.specs.Names.{is_in, last_first}

-- what is left from an index on: its item, and the rest
pub left_is : {A : Type 0} (xs : List A) (i : ℕ) (d : A) → i < length xs → d ≡ get_or xs i d → drop i xs ≡ d ∷ drop (i + 1) xs
left_is xs i d within is = drop-cons xs i d within ∙ ap (λ x. x ∷ drop (suc i) xs) (sym is) ∙ ap (λ k. d ∷ drop k xs) (sym (add-one i))

pub all_map : {A B : Type 0} (p : B → Bool) (f : A → B) (xs : List A) → list_all (λ x. p (f x)) xs ≡ list_all p (map f xs)
all_map p f [] = refl
all_map p f (x ∷ xs) = ap (λ b. p (f x) && b) (all_map p f xs)

pub all-reverse : {A : Type 0} (p : A → Bool) (xs : List A) → list_all p (reverse xs) ≡ list_all p xs
all-reverse p [] = refl
all-reverse p (x ∷ xs) =
    ap (list_all p) (reverse_onto xs x []) ∙ list_all-append p (reverse xs) (x ∷ []) ∙ ap (λ b. b && (p x && true)) (all-reverse p xs)
    ∙ swapped (list_all p xs) (p x)
  where
    swapped : (a b : Bool) → (a && (b && true)) ≡ (b && a)
    swapped true true = refl
    swapped true false = refl
    swapped false true = refl
    swapped false false = refl

-- all names in memory pass a test that those of the list pass
pub all-last_first : (p : List ℕ → Bool) (xs : List (Bor (List ℕ))) (names : List (List ℕ)) → last_first xs ≡ reverse names → list_all (λ x. p x.now) xs ≡ list_all p names
all-last_first p xs names is =
    all_map p (λ x. x.now) xs ∙ sym (all-reverse p (map (λ x. x.now) xs)) ∙ ap (list_all p) is ∙ all-reverse p names

-- a name stands in a list whichever way round
pub in-reverse : (names : List (List ℕ)) (x : List ℕ) → is_in (reverse names) x ≡ is_in names x
in-reverse names x = sym (list_any-IsPermutation (λ y. bytes_eq y x) names (reverse names) (IsPermutation-reverse names))

-- one name less at the end
pub cut_next : (names l new : List (List ℕ)) → length l ≤ length names → 0 < length l → l ≡ drop (length names - length l) names → new ≡ drop 1 l
    → (length new ≡ length l - 1) × (new ≡ drop (length names - length new) names)
cut_next names l new within some left less =
    let shorter : length new ≡ length l - 1 = ap length less ∙ length-drop 1 l in
    let more : (length names - length l) + 1 ≡ length names - length new = omega arith in
    (shorter, less ∙ ap (drop 1) left ∙ drop-drop 1 (length names - length l) names ∙ ap (λ k. drop k names) more)
