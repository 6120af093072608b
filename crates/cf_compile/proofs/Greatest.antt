-- The greatest of numbers with one more behind them, and of all of them.
use Rattle.std.proofs.Common.{◌≡◌, ◌∙◌, ℕ, ◌+◌, ◌<◌, ◌≤◌, List, [], ◌∷◌, ◌++◌, length, take, get_or, max, ap, arith}
use Rattle.std.proofs.lemmas.List.{take_more, take_all}
use Rattle.cf_compile.specs.Takes.{greatest}

greatest-behind : (xs : List ℕ) (y : ℕ) → greatest (xs ++ y ∷ []) ≡ max (greatest xs) y
greatest-behind [] y = omega arith
greatest-behind (x ∷ xs) y = ap (max x) (greatest-behind xs y) ∙ more x (greatest xs) y
  where
    more : (a b c : ℕ) → max a (max b c) ≡ max (max a b) c
    more a b c = omega arith

pub greatest-more : (xs : List ℕ) (i d : ℕ) → i < length xs → greatest (take (i + 1) xs) ≡ max (greatest (take i xs)) (get_or xs i d)
greatest-more xs i d within = ap greatest (take_more xs i d within) ∙ greatest-behind (take i xs) (get_or xs i d)

pub greatest-all : (xs : List ℕ) (i : ℕ) → length xs ≤ i → greatest (take i xs) ≡ greatest xs
greatest-all xs i past = ap greatest (take_all i xs past)
