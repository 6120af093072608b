-- A table finds the names that were put into it.
use Rattle.std.proofs.Common.{◌≡◌, ℕ, ◌+◌, ◌<◌, Bool, true, false, ◌||◌, List, [], ◌∷◌, ◌++◌, take, get_or, length, if◌then◌else◌, refl, sym, ap, ◌∙◌}
use Rattle.std.specs.Prelude.{bytes_eq}
use Rattle.std.specs.List.{list_any}
use Rattle.std.specs.Cmp.Lexicographic.{same_text}
use Rattle.std.proofs.lemmas.List.Folds.{list_any-append, list_any_more}
use Rattle.indexmap.specs.IndexSet.{insert_key}

or-false : (b : Bool) → (b || false) ≡ b
or-false true = refl
or-false false = refl

module _ {K : Type 0} (view : K → List ℕ) where
  -- a name more
  pub finds-insert : (q : List ℕ) (keys : List K) (k : K)
      → list_any (λ k. bytes_eq q (view k)) (insert_key (λ x y. bytes_eq (view x) (view y)) keys k) ≡ (list_any (λ k. bytes_eq q (view k)) keys || bytes_eq q (view k))
  finds-insert q keys k = by (list_any (λ y. bytes_eq (view k) (view y)) keys) refl (bytes_eq q (view k)) refl
    where
      by : (there : Bool) → list_any (λ y. bytes_eq (view k) (view y)) keys ≡ there → (same : Bool) → bytes_eq q (view k) ≡ same
          → list_any (λ y. bytes_eq q (view y)) (if there then keys else keys ++ k ∷ []) ≡ (list_any (λ y. bytes_eq q (view y)) keys || same)
      by true e true is =
          let found : list_any (λ y. bytes_eq q (view y)) keys ≡ true = ap (λ n. list_any (λ y. bytes_eq n (view y)) keys) (same_text q (view k) (sym is)) ∙ e in
          found ∙ sym (ap (λ b. b || true) found)
      by true e false is = sym (or-false (list_any (λ y. bytes_eq q (view y)) keys))
      by false e same is =
          list_any-append (λ y. bytes_eq q (view y)) keys (k ∷ []) ∙ ap (λ b. list_any (λ y. bytes_eq q (view y)) keys || b) (or-false (bytes_eq q (view k)) ∙ is)

  -- the same in a loop over the names
  pub finds-next : (q : List ℕ) (names : List (List ℕ)) (i : ℕ) (keys new : List K) (k : K) (name : List ℕ) → i < length names → name ≡ get_or names i name
      → view k ≡ name → new ≡ insert_key (λ x y. bytes_eq (view x) (view y)) keys k
      → list_any (λ y. bytes_eq q (view y)) keys ≡ list_any (bytes_eq q) (take i names) → list_any (λ y. bytes_eq q (view y)) new ≡ list_any (bytes_eq q) (take (i + 1) names)
  finds-next q names i keys new k name within is called more so_far =
      ap (list_any (λ y. bytes_eq q (view y))) more ∙ finds-insert q keys k ∙ ap (λ b. b || bytes_eq q (view k)) so_far
      ∙ ap (λ n. list_any (bytes_eq q) (take i names) || bytes_eq q n) (called ∙ is) ∙ sym (list_any_more (bytes_eq q) names i name within)
