-- Items at their places in a list that grows at its end.
use Rattle.std.proofs.Common.{◌≡◌, ℕ, zero, suc, ◌<◌, ◌⊎◌, inl, inr, Bool, true, false, List, [], ◌∷◌, ◌++◌, length, Some, slice_get, refl, sym, ap, ◌∙◌, true≢false, arith}
use Rattle.std.proofs.lemmas.Option.{slice_get_within}
use Rattle.std.proofs.lemmas.Map.Keys.{any_passes_from_place}
use Rattle.std.specs.List.{list_any}
use Rattle.cf_types.specs.Table.{Enters, HasOnce}

pub get-left : {A : Type 0} (xs ys : List A) (i : ℕ) (x : A) → slice_get xs i ≡ Some x → slice_get (xs ++ ys) i ≡ Some x
get-left [] ys i x h = cc
get-left (z ∷ xs) ys zero x h = h
get-left (z ∷ xs) ys (suc i) x h = get-left xs ys i x h

-- the longer list has the same items at the places of the shorter
pub get-front : {A : Type 0} (xs ys : List A) (i : ℕ) → i < length xs → slice_get (xs ++ ys) i ≡ slice_get xs i
get-front [] ys i h = absurd (omega arith)
get-front (z ∷ xs) ys zero h = refl
get-front (z ∷ xs) ys (suc i) h = get-front xs ys i (omega arith)

pub get-last : {A : Type 0} (xs : List A) (y : A) → slice_get (xs ++ y ∷ []) (length xs) ≡ Some y
get-last [] y = refl
get-last (x ∷ xs) y = get-last xs y

-- an item of the longer list is one of the shorter, or the new one at its place
pub get-snoc : {A : Type 0} (xs : List A) (y : A) (i : ℕ) (x : A) → slice_get (xs ++ y ∷ []) i ≡ Some x → (slice_get xs i ≡ Some x) ⊎ ((i ≡ length xs) × (y ≡ x))
get-snoc [] y zero x h = inr (refl, cc)
get-snoc [] y (suc i) x h = cc
get-snoc (z ∷ xs) y zero x h = inl h
get-snoc (z ∷ xs) y (suc i) x h = elim (get-snoc xs y i x h) [ inl a ↦ inl a | inr b ↦ inr (ap suc b.0, b.1) ]

module _ {A : Type 0} (xs : List A) (y : A) (absent : (i : ℕ) → slice_get xs i ≡ Some y → ⊥) where
  -- a new item is there once
  pub HasOnce-snoc : HasOnce xs → HasOnce (xs ++ y ∷ [])
  HasOnce-snoc old = record {
    same = λ i j x h k.
        elim (get-snoc xs y i x h) [
          | inl a ↦ elim (get-snoc xs y j x k) [ inl b ↦ old.same i j x a b | inr b ↦ absurd (absent i cc) ]
          | inr a ↦ elim (get-snoc xs y j x k) [ inl b ↦ absurd (absent j cc) | inr b ↦ a.0 ∙ sym b.0 ]
        ];
  }

  pub Enters-new : HasOnce xs → Enters xs (xs ++ y ∷ []) y (length xs)
  Enters-new old = record {
    within = slice_get_within (xs ++ y ∷ []) (length xs) y (get-last xs y);
    found = get-last xs y;
    only = λ other h. (HasOnce-snoc old).same other (length xs) y h (get-last xs y);
    kept = inr refl;
  }

-- an item that is there keeps its place
pub Enters-old : {A : Type 0} (xs : List A) (y : A) (i : ℕ) → HasOnce xs → slice_get xs i ≡ Some y → Enters xs xs y i
Enters-old xs y i old h = record { within = slice_get_within xs i y h; found = h; only = λ other k. old.same other i y k h; kept = inl refl }

-- where no item passes the test, one that would isn't there
pub absent_from_any : {A : Type 0} (test : A → Bool) (xs : List A) (y : A) → test y ≡ true → list_any test xs ≡ false → (i : ℕ) → slice_get xs i ≡ Some y → ⊥
absent_from_any test xs y passes none i h = true≢false (sym (any_passes_from_place test xs i y h passes) ∙ none)
