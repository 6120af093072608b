-- What a number counts as.
use Rattle.std.proofs.Common.{◌≡◌, zero, suc, Some, true, false, refl, sym, ap}
use Rattle.std.specs.Prelude.{ℤ, pos, negsuc}
use Rattle.cf_lower_constants.specs.declared.known.Fact.TheVariants as fact
use Rattle.cf_lower_constants.specs.Knowing.{fact_truth}

pub zero_is_false : (z : ℤ) → z ≡ pos 0 → Some false ≡ fact_truth (fact.Number z)
zero_is_false z e = ap (λ y. fact_truth (fact.Number y)) (sym e)

pub other_is_true : (z : ℤ) → (z ≡ pos 0 → ⊥) → Some true ≡ fact_truth (fact.Number z)
other_is_true (pos zero) other = absurd (other refl)
other_is_true (pos (suc n)) other = refl
other_is_true (negsuc n) other = refl
