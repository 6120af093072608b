-- What tests on booleans and on bytes say.
use Rattle.std.proofs.Common.{◌≡◌, ℕ, Bool, true, false, ◌&&◌, List, refl}
use Rattle.std.specs.Str.{bytes_eq}
use Rattle.std.proofs.lemmas.Slice.Eq.{bytes_eq-Decides}

pub same_bytes : (xs ys : List ℕ) → bytes_eq xs ys ≡ true → xs ≡ ys
same_bytes xs ys e = (bytes_eq-Decides xs ys).0 e

pub bytes_same : (xs ys : List ℕ) → xs ≡ ys → bytes_eq xs ys ≡ true
bytes_same xs ys e = (bytes_eq-Decides xs ys).1 e

pub bytes_differ : (xs ys : List ℕ) → (xs ≡ ys → ⊥) → bytes_eq xs ys ≡ false
bytes_differ xs ys ne = go (bytes_eq xs ys) refl
  where
    go : (t : Bool) → bytes_eq xs ys ≡ t → t ≡ false
    go true e = absurd (ne (same_bytes xs ys e))
    go false e = refl

pub all_of : (a b : Bool) → a ≡ true → b ≡ true → (a && b) ≡ true
all_of true b e f = f
all_of false b e f = e

pub both : (a b : Bool) → (a && b) ≡ true → (a ≡ true) × (b ≡ true)
both true b e = (refl, e)
both false b e = absurd (cc)
