-- Sums that end at the greatest number of 64 bits.
use Rattle.std.proofs.Common.{◌≡◌, ℕ, ◌+◌, max, List, [], ◌∷◌, ◌++◌, ap, sym, ◌∙◌, arith}
use Rattle.std.proofs.Math.Nat.{zero-max}
use Rattle.cf_core.specs.Frame.{greatest}
use Rattle.cf_frame.specs.Costed.{up_to_most}

pub of_sum : (m n a b : ℕ) → up_to_most m ≡ a → up_to_most n ≡ b → up_to_most (m + n) ≡ up_to_most (a + b)
of_sum m n a b p q = omega arith

pub of_max : (m n a b : ℕ) → up_to_most m ≡ a → up_to_most n ≡ b → up_to_most (max m n) ≡ max a b
of_max m n a b p q = omega arith

pub greatest-append : (xs ys : List ℕ) → greatest (xs ++ ys) ≡ max (greatest xs) (greatest ys)
greatest-append [] ys = sym (zero-max (greatest ys))
greatest-append (x ∷ xs) ys = ap (max x) (greatest-append xs ys) ∙ omega arith

-- a further item of a saturated sum
pub further : (total x rest : ℕ) → up_to_most (up_to_most (total + x) + rest) ≡ up_to_most (total + (x + rest))
further total x rest = omega arith
