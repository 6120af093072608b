-- All that a name is declared as.
use Rattle.std.proofs.Common.{◌≡◌, ℕ, ◌+◌, ◌-◌, ◌<◌, ◌≤◌, List, [], ◌∷◌, ◌++◌, take, get_or, length, sym, ap, ◌∙◌, append_assoc, arith}
use Rattle.std.proofs.lemmas.List.{append-nil, take_more}
use Rattle.cf_lookup.specs.Scope.{OpenScopes, all_found, all_in, named_in}

-- the last scope comes first
pub all_in-last : (name : List ℕ) (outer : List (List (List ℕ × ℕ))) (last : List (List ℕ × ℕ)) → all_in name (outer ++ last ∷ []) ≡ named_in name last ++ all_in name outer
all_in-last name [] last = sym (append-nil (named_in name last))
all_in-last name (s ∷ outer) last = ap (λ l. l ++ named_in name s) (all_in-last name outer last) ∙ append_assoc (named_in name last) (all_in name outer) (named_in name s)

pub all_found_is : (name : List ℕ) (scopes : OpenScopes) → all_found name scopes ≡ named_in name scopes.inner ++ all_in name scopes.outer
all_found_is name scopes = all_in-last name scopes.outer scopes.inner

-- with the scopes from a place on
module _ (name : List ℕ) (scopes : List (List (List ℕ × ℕ))) where
  pub all_before : (around : ℕ) (d : List (List ℕ × ℕ)) (old so_far new : List ℕ) → 0 < around → around ≤ length scopes → d ≡ get_or scopes (around - 1) d
      → so_far ++ all_in name (take around scopes) ≡ old ++ all_in name scopes → new ≡ so_far ++ named_in name d
      → new ++ all_in name (take (around - 1) scopes) ≡ old ++ all_in name scopes
  all_before around d old so_far new some within here is more =
      let before : around ≡ (around - 1) + 1 = omega arith in
      let split : all_in name (take around scopes) ≡ named_in name d ++ all_in name (take (around - 1) scopes) =
      ap (λ n. all_in name (take n scopes)) before ∙ ap (all_in name) (take_more scopes (around - 1) d (omega arith))
      ∙ all_in-last name (take (around - 1) scopes) (get_or scopes (around - 1) d) ∙ ap (λ s. named_in name s ++ all_in name (take (around - 1) scopes)) (sym here) in
      ap (λ l. l ++ all_in name (take (around - 1) scopes)) more ∙ append_assoc so_far (named_in name d) (all_in name (take (around - 1) scopes))
      ∙ ap (λ l. so_far ++ l) (sym split) ∙ is
