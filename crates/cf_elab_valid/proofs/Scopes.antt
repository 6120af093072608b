-- Names in open scopes, and scopes that are entered and left (3.2).
use Rattle.std.proofs.Common.{◌≡◌, ◌⊎◌, inl, inr, ℕ, Bool, true, false, cond, List, [], ◌∷◌, ◌++◌, Option, Some, None, refl, ap, ◌∙◌}
use Rattle.std.specs.Option.{option_or}
use Rattle.std.specs.Prelude.{nat_eq}
use Rattle.std.specs.Cmp.Lexicographic.{pointwise}
use Rattle.cf_lookup.specs.Scope.{OpenScopes, in_scope, found_in}
use Rattle.cf_elab.specs.Env.{Name}
use Rattle.cf_elab.specs.Names.{without_last}
use Rattle.cf_elab_valid.specs.Scene.{IsNumbered, IsNumberedIn}
use Rattle.cf_elab_valid.specs.Statements.{is_outermost}
use Rattle.cf_elab_valid.proofs.Options.{none_some, some_is}

pub scope-numbered : (name : Name) (xs : List (Name × ℕ)) (n : ℕ) → in_scope name xs ≡ Some n → IsNumbered n xs
scope-numbered name [] n h = absurd (none_some n h)
scope-numbered name (x ∷ xs) n h = by (pointwise nat_eq name x.0) h (scope-numbered name xs n)
  where
    by : (b : Bool) → cond b (Some x.1) (in_scope name xs) ≡ Some n → (in_scope name xs ≡ Some n → IsNumbered n xs) → (x.1 ≡ n) ⊎ IsNumbered n xs
    by true h rest = inl (some_is x.1 n h)
    by false h rest = inr (rest h)

-- what is found is open
pub found-numbered : (name : Name) (scopes : List (List (Name × ℕ))) (n : ℕ) → found_in name scopes ≡ Some n → IsNumberedIn n scopes
found-numbered name [] n h = absurd (none_some n h)
found-numbered name (x ∷ xs) n h = by (found_in name xs) refl h (found-numbered name xs n)
  where
    by : (o : Option ℕ) → found_in name xs ≡ o → option_or o (in_scope name x) ≡ Some n → (found_in name xs ≡ Some n → IsNumberedIn n xs) → IsNumbered n x ⊎ IsNumberedIn n xs
    by None is h rest = inl (scope-numbered name x n h)
    by (Some k) is h rest = inr (rest (is ∙ h))

-- a new scope has no names
pub empty-numbered : (n : ℕ) (xs : List (List (Name × ℕ))) → IsNumberedIn n (xs ++ [] ∷ []) → IsNumberedIn n xs
empty-numbered n [] (inl h) = h
empty-numbered n [] (inr h) = h
empty-numbered n (x ∷ xs) (inl h) = inl h
empty-numbered n (x ∷ xs) (inr h) = inr (empty-numbered n xs h)

pub left-numbered : (n : ℕ) (xs ys : List (List (Name × ℕ))) → IsNumberedIn n xs → IsNumberedIn n (xs ++ ys)
left-numbered n [] ys h = absurd h
left-numbered n (x ∷ xs) ys (inl h) = inl h
left-numbered n (x ∷ xs) ys (inr h) = inr (left-numbered n xs ys h)

-- the scopes before one was entered
pub left-scopes : (outer : List (List (Name × ℕ))) (inner : List (Name × ℕ)) → without_last (outer ++ inner ∷ []) ≡ record { outer = outer; inner = inner }
left-scopes [] inner = refl
left-scopes (x ∷ []) inner = refl
left-scopes (x ∷ y ∷ rest) inner = ap (λ (o : OpenScopes). let p : OpenScopes = record o { outer = x ∷ o.outer } in p) (left-scopes (y ∷ rest) inner)

-- a scope in another is not the file's
pub within-another : (outer : List (List (Name × ℕ))) (inner : List (Name × ℕ)) → is_outermost (outer ++ inner ∷ []) ≡ false
within-another [] inner = refl
within-another (x ∷ outer) inner = refl
