-- A text without its last byte.
use Rattle.std.proofs.Common.{◌≡◌, ℕ, List, [], ◌∷◌, ◌++◌, length, refl, sym, ap, ◌∙◌, arith}
use Rattle.cf_lower.specs.Functions.{but_last}

before_last : (bs : List ℕ) (b : ℕ) → but_last (bs ++ b ∷ []) ≡ bs
before_last [] b = refl
before_last (c ∷ []) b = refl
before_last (c ∷ d ∷ bs) b = ap (λ l. c ∷ l) (before_last (d ∷ bs) b)

pub without_last : (all bs : List ℕ) (b : ℕ) → all ≡ bs ++ b ∷ [] → bs ≡ but_last all
without_last all bs b e = sym (ap but_last e ∙ before_last bs b)

pub none_last : (all : List ℕ) → length all ≡ 0 → all ≡ but_last all
none_last [] e = refl
none_last (b ∷ bs) e = absurd (omega (arith, e))
