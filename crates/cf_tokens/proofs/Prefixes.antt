-- What is read at the front of a text is read at the front of a part of it that goes past what was read.
use Rattle.std.proofs.Common.{◌≡◌, ℕ, zero, suc, ◌<◌, List, [], ◌∷◌, take, length, Bool, true, false, cond, refl, ap, sym, ◌∙◌, subst, arith}
use Rattle.std.specs.List.{take_while}
use Rattle.std.proofs.lemmas.List.Sums.{take_while-cons}

all_step : (b : Bool) (x k : ℕ) (part whole : List ℕ) → (length whole < k → part ≡ whole)
    → length (cond b (x ∷ whole) []) < suc k → cond b (x ∷ part) [] ≡ cond b (x ∷ whole) []
all_step true x k part whole more short = ap (λ xs. x ∷ xs) (more (omega arith))
all_step false x k part whole more short = refl

-- the elements at the front that pass
pub leading_all : (p : ℕ → Bool) (k : ℕ) (xs : List ℕ) → length (take_while p xs) < k
    → take_while p (take k xs) ≡ take_while p xs
leading_all p zero xs short = absurd (omega arith)
leading_all p (suc k) [] short = refl
leading_all p (suc k) (x ∷ xs) short =
    take_while-cons p x (take k xs)
    ∙ (all_step (p x) x k (take_while p (take k xs)) (take_while p xs) (leading_all p k xs)
    (subst (λ ys. length ys < suc k) (take_while-cons p x xs) short)
    ∙ sym (take_while-cons p x xs))

part_step : (b : Bool) (x j k : ℕ) (part whole : List ℕ) → (length (take j whole) < k → take j part ≡ take j whole)
    → length (take (suc j) (cond b (x ∷ whole) [])) < suc k
    → take (suc j) (cond b (x ∷ part) []) ≡ take (suc j) (cond b (x ∷ whole) [])
part_step true x j k part whole more short = ap (λ xs. x ∷ xs) (more (omega arith))
part_step false x j k part whole more short = refl

-- the first j of them
pub leading_part : (p : ℕ → Bool) (j k : ℕ) (xs : List ℕ) → length (take j (take_while p xs)) < k
    → take j (take_while p (take k xs)) ≡ take j (take_while p xs)
leading_part p zero k xs short = refl
leading_part p (suc j) zero xs short = absurd (omega arith)
leading_part p (suc j) (suc k) [] short = refl
leading_part p (suc j) (suc k) (x ∷ xs) short =
    ap (take (suc j)) (take_while-cons p x (take k xs))
    ∙ (part_step (p x) x j k (take_while p (take k xs)) (take_while p xs) (leading_part p j k xs)
    (subst (λ ys. length (take (suc j) ys) < suc k) (take_while-cons p x xs) short)
    ∙ ap (take (suc j)) (sym (take_while-cons p x xs)))
