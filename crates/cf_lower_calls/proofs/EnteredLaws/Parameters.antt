-- The parameters are open where a function is entered.
use Rattle.std.proofs.Common.{◌≡◌, ℕ, zero, suc, ◌+◌, ◌<◌, ◌≤◌, Bool, true, false, ◌&&◌, ◌||◌, ◌==◌, List, [], ◌∷◌, length, refl, ◌∙◌, ap, arith}
use Rattle.std.specs.Prelude.{Some, None, slice_get}
use Rattle.std.proofs.lemmas.Bool.Decides.{nat_tests}
use Rattle.cf_core.specs.Types.{SourceType}
use Rattle.cf_core.specs.Run.{State}
use Rattle.cf_plain.specs.Acts.{Registers}
use Rattle.cf_lower_kept.specs.Opened.{Opened, open_one, is_open, parameters_open}
use Rattle.cf_lower_bounds.specs.Points.{IsOpen, AllOpen}

-- a parameter that has its value
abbrev pub entered_one : ℕ → Opened
entered_one i = open_one i None true

module _ (count : ℕ) (g : Registers) (s : State) where
  pub all-parameters : (i : ℕ) (ts : List SourceType) → ((j : ℕ) → i ≤ j → j < i + length ts → IsOpen count (entered_one j) g s)
      → AllOpen count (parameters_open i ts) g s
  all-parameters i [] each = tt
  all-parameters i (t ∷ ts) each = (
    each i (omega arith) (let k : i < i + suc (length ts) = omega arith in k),
    all-parameters (suc i) ts (λ j low high. each j (let a : i ≤ j = omega (arith, low) in a) (let b : j < i + suc (length ts) = omega (arith, high) in b)),
  )

pub open-parameter : (i j : ℕ) (ts : List SourceType) → i ≤ j → j < i + length ts → is_open j (parameters_open i ts) ≡ true
open-parameter i j [] low high = absurd (let k : j < i + 0 = high in omega (arith, low, k))
open-parameter i j (t ∷ ts) low high = by (λ more less. open-parameter (suc i) j ts more less) (i == j) refl
  where
    by : (suc i ≤ j → j < suc i + length ts → is_open j (parameters_open (suc i) ts) ≡ true) → (b : Bool) → i == j ≡ b → is_open j (parameters_open i (t ∷ ts)) ≡ true
    by rest true k = ap (λ b. (b && true) || is_open j (parameters_open (suc i) ts)) k
    by rest false k =
        let more : suc i ≤ j = grind (arith, nat_tests, k, low) in
        let h : j < i + suc (length ts) = high in
        ap (λ b. (b && true) || is_open j (parameters_open (suc i) ts)) k ∙ rest more (omega (arith, h))

pub below-length : (os : List ℕ) (i o : ℕ) → slice_get os i ≡ Some o → i < length os
below-length [] i o e = absurd (let k = e in cc)
below-length (p ∷ ps) zero o e = let k : 0 < suc (length ps) = omega arith in k
below-length (p ∷ ps) (suc i) o e = let rest = below-length ps i o e in let k : suc i < suc (length ps) = omega (arith, rest) in k
