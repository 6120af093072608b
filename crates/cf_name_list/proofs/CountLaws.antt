-- How often names stand in a list.
use Rattle.std.proofs.Common.{◌≡◌, ℕ, suc, ◌≤◌, ◌<◌, Bool, true, false, ◌||◌, List, [], ◌∷◌, ◌++◌, length, map, if◌then◌else◌, refl, sym, ap, subst, ◌∙◌, arith}
use Rattle.std.specs.Prelude.{bytes_eq, nat_lt, reverse}
use Rattle.std.specs.Borrow.{Bor}
use Rattle.std.proofs.lemmas.List.{length-reverse, length-map, reverse-append, map-append}
use Rattle.std.proofs.lemmas.Bool.Decides.{nat_tests}
use Rattle.std.proofs.lemmas.Cmp.{nat_list_eq_equiv}
use Rattle.cf_name_list.specs.Names.{is_in}
use Rattle.cf_name_list.specs.Names.{count_of, last_first}

pub is_in-count : (names : List (List ℕ)) (x : List ℕ) → is_in names x ≡ nat_lt 0 (count_of x names)
is_in-count [] x = refl
is_in-count (y ∷ names) x = by (bytes_eq y x) (is_in-count names x)
  where
    by : (b : Bool) → is_in names x ≡ nat_lt 0 (count_of x names) → (b || is_in names x) ≡ nat_lt 0 (if b then suc (count_of x names) else count_of x names)
    by true e = grind (arith, nat_tests)
    by false e = e

pub count-le : (names : List (List ℕ)) (x : List ℕ) → count_of x names ≤ length names
count-le [] x = omega arith
count-le (y ∷ names) x = by (bytes_eq y x) (count-le names x)
  where
    by : (b : Bool) → count_of x names ≤ length names → (if b then suc (count_of x names) else count_of x names) ≤ suc (length names)
    by true e = omega arith
    by false e = omega arith

pub length-last_first : (xs : List (Bor (List ℕ))) → length (last_first xs) ≡ length xs
length-last_first xs = length-reverse (map (λ x. x.now) xs) ∙ length-map xs (λ x. x.now)

-- the name that was put last stands in the list
pub last-counts : (xs ys : List (Bor (List ℕ))) (x : Bor (List ℕ)) → xs ≡ ys ++ x ∷ [] → 0 < count_of x.now (last_first xs)
last-counts xs ys x e =
    let front : last_first xs ≡ x.now ∷ last_first ys =
    ap last_first e ∙ ap reverse (map-append (λ x. x.now) ys (x ∷ [])) ∙ reverse-append (map (λ x. x.now) ys) (x.now ∷ []) in
    subst (λ l. 0 < count_of x.now l) (sym front) (subst (λ b. 0 < (if b then suc (count_of x.now (last_first ys)) else count_of x.now (last_first ys))) (sym (nat_list_eq_equiv.refl x.now)) (omega arith))
