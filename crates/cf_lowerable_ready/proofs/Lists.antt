-- What stands at an index of a list that grows, or in which one item is changed.
use Rattle.std.proofs.Common.{◌≡◌, ℕ, zero, suc, ◌<◌, ◌==◌, Bool, true, false, if◌then◌else◌, List, [], ◌∷◌, ◌++◌, length, refl, ap, ◌∙◌, arith}
use Rattle.std.specs.Prelude.{slice_set}
use Rattle.std.proofs.lemmas.Bool.Decides.{nat_tests}
use Rattle.cf_lowerable_ready.specs.declared.content.Content.{Content}
use Rattle.cf_lowerable_ready.specs.declared.content.Content.TheVariants as content
use Rattle.cf_lowerable_ready.specs.Contents.{content_at}

-- nothing more is held where nothing is put at the end
pub at_longer : (xs : List Content) (q : ℕ) → content_at (xs ++ content.Unset ∷ []) q ≡ content_at xs q
at_longer [] zero = refl
at_longer [] (suc q) = refl
at_longer (x ∷ xs) zero = refl
at_longer (x ∷ xs) (suc q) = at_longer xs q

pub at_set : (xs : List Content) (i : ℕ) (x : Content) (q : ℕ) → i < length xs → content_at (slice_set xs i x) q ≡ (if q == i then x else content_at xs q)
at_set [] i x q lt = absurd (omega arith)
at_set (y ∷ ys) zero x zero lt = refl
at_set (y ∷ ys) zero x (suc q) lt = by (suc q == 0) refl
  where
    by : (b : Bool) → (suc q == 0) ≡ b → content_at ys q ≡ (if b then x else content_at ys q)
    by true e = absurd (grind (arith, nat_tests))
    by false e = refl
at_set (y ∷ ys) (suc i) x zero lt = by (0 == suc i) refl
  where
    by : (b : Bool) → (0 == suc i) ≡ b → y ≡ (if b then x else y)
    by true e = absurd (grind (arith, nat_tests))
    by false e = refl
at_set (y ∷ ys) (suc i) x (suc q) lt = at_set ys i x q (omega arith) ∙ ap (λ b. if b then x else content_at ys q) (same_test q i)
  where
    same_test : (q i : ℕ) → (q == i) ≡ (suc q == suc i)
    same_test q i = grind (arith, nat_tests)
