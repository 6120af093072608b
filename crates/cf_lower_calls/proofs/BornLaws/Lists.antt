-- Items of lists one behind another, by number.
use Rattle.std.proofs.Common.{◌≡◌, ℕ, zero, suc, ◌+◌, ◌<◌, ◌≤◌, List, [], ◌∷◌, ◌++◌, length, slice_get, refl, sym, ◌∙◌, ap, arith}
use Rattle.std.specs.Prelude.{Option, Some, map}

pub slice-left : {A : Type 0} (xs ys : List A) (i : ℕ) (x : A) → slice_get xs i ≡ Some x → slice_get (xs ++ ys) i ≡ Some x
slice-left [] ys i x e = absurd (let k = e in cc)
slice-left (a ∷ xs) ys zero x e = e
slice-left (a ∷ xs) ys (suc i) x e = slice-left xs ys i x e

pub slice-right : {A : Type 0} (xs ys : List A) (i : ℕ) → slice_get (xs ++ ys) (length xs + i) ≡ slice_get ys i
slice-right [] ys i = ap (slice_get ys) (let n : 0 + i ≡ i = omega arith in n)
slice-right (a ∷ xs) ys i =
    ap (slice_get (a ∷ (xs ++ ys))) (let n : suc (length xs) + i ≡ suc (length xs + i) = omega arith in n) ∙ slice-right xs ys i

-- by the number and the length
pub slice-behind : {A : Type 0} (xs ys : List A) (n i : ℕ) (x : A) → length xs ≡ n → slice_get ys i ≡ Some x → slice_get (xs ++ ys) (n + i) ≡ Some x
slice-behind xs ys n i x e k = ap (λ (m : ℕ). slice_get (xs ++ ys) (m + i)) (sym e) ∙ slice-right xs ys i ∙ k

-- below the length there is one
pub record ItemAt {A : Type 0} (xs : List A) (i : ℕ) : Type 0 where
  pub item : A
  pub is : slice_get xs i ≡ Some item

pub item-at : {A : Type 0} (xs : List A) (i : ℕ) → i < length xs → ItemAt xs i
item-at [] i lt = absurd (let k : i < 0 = lt in omega (arith, k))
item-at (x ∷ xs) zero lt = record { item = x; is = refl }
item-at (x ∷ xs) (suc i) lt =
    let k : suc i < suc (length xs) = lt in
    let rest = item-at xs i (omega (arith, k)) in
    record { item = rest.item; is = rest.is }
