-- What holds of each item of a list, by its place.
use Rattle.std.proofs.Common.{◌≡◌, ℕ, zero, suc, ◌+◌, List, [], ◌∷◌, Some, slice_get, subst, arith}

-- something that holds of each item of a list, with its place
abbrev pub Each : {A : Type 0} → (ℕ → A → Type 0) → ℕ → List A → Type 0
Each P n [] = Unit {0}
Each P n (x ∷ xs) = P n x × Each P (n + 1) xs

module _ {A : Type 0} where
  each_at : (P : ℕ → A → Type 0) (n : ℕ) (xs : List A) → Each P n xs → (i : ℕ) (x : A) → slice_get xs i ≡ Some x → P (n + i) x
  each_at P n [] h i x e = cc
  each_at P n (y ∷ ys) h zero x e = let same : y ≡ x = cc in subst (λ k. P k x) (omega arith) (subst (P n) same h.0)
  each_at P n (y ∷ ys) h (suc i) x e = subst (λ k. P k x) (omega arith) (each_at P (n + 1) ys h.1 i x e)

pub each : {A : Type 0} (P : ℕ → A → Type 0) (xs : List A) → Each P 0 xs → (i : ℕ) (x : A) → slice_get xs i ≡ Some x → P i x
each P xs h i x e = subst (λ k. P k x) (omega arith) (each_at P 0 xs h i x e)
