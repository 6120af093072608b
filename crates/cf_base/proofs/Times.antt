-- What one more name does to the counts of a list of names.
use Rattle.std.proofs.Common.{◌≡◌, ℕ, ◌+◌, refl, sym, List, [], ◌∷◌, ◌++◌, Bool, true, false, cond, arith}
use Rattle.std.specs.Prelude.{bytes_eq}
use Rattle.std.proofs.lemmas.List.Sums.{sum_by_push}
use Rattle.std.proofs.lemmas.Slice.Eq.{bytes_eq-Decides}
use Rattle.cf_base.specs.Failures.{times}
use Rattle.cf_base.specs.Disk.{Rises}

abbrev one_if : Bool → ℕ
one_if b = cond b 1 0

differs : (b : Bool) (P : Type 0) → (b ≡ true → P) → (P → ⊥) → b ≡ false
differs true P holds not_so = absurd (not_so (holds refl))
differs false P holds not_so = refl

times_push : (names : List (List ℕ)) (name other : List ℕ)
    → times (names ++ name ∷ []) other ≡ times names other + one_if (bytes_eq name other)
times_push names name other = sum_by_push (λ (x : List ℕ). cond (bytes_eq x other) 1 0) names name

pub rises : (names : List (List ℕ)) (name : List ℕ) → Rises name (times names) (times (names ++ name ∷ []))
rises names name = record {
  here = let same : bytes_eq name name ≡ true = (bytes_eq-Decides name name).1 refl in
      rw (times_push names name name, same) (omega arith);
  elsewhere = λ other differ. let no : bytes_eq name other ≡ false = differs (bytes_eq name other) (name ≡ other) (bytes_eq-Decides name other).0 (λ e. differ (sym e)) in
      rw (times_push names name other, no) (omega arith);
}
