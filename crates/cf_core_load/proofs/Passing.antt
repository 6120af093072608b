-- What holds of each item of a list.
use Rattle.std.proofs.Common.{◌≡◌, ◌∙◌, ℕ, zero, suc, ◌<◌, Bool, true, List, [], ◌∷◌, length, get_or, ap, arith}
use Rattle.std.specs.List.{list_all}
use Rattle.std.proofs.lemmas.Bool.{and_parts}

pub passes_at : {A : Type 0} (p : A → Bool) (xs : List A) (i : ℕ) (x : A) → list_all p xs ≡ true → i < length xs → x ≡ get_or xs i x → p x ≡ true
passes_at p [] i x h lt is = absurd (omega arith)
passes_at p (y ∷ ys) zero x h lt is = ap p is ∙ (and_parts (p y) (list_all p ys) h).0
passes_at p (y ∷ ys) (suc i) x h lt is = passes_at p ys i x (and_parts (p y) (list_all p ys) h).1 (omega arith) is
