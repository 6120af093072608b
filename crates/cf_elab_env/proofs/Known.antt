-- What is known of an item of a list, and of what a name is found as.
use Rattle.std.proofs.Common.{◌≡◌, ℕ, suc, ◌<◌, List, [], ◌∷◌, ◌++◌, map, filter, All, Option, None, Some, IfSome, slice_get, sym, ap, subst, ◌∙◌, arith}
use Rattle.std.specs.Option.{option_map, option_or}
use Rattle.std.proofs.lemmas.Option.{slice_get_within, slice_get-map, get_or_from_slice_get}
use Rattle.std.proofs.lemmas.Map.Entries.{All-lookup}
use Rattle.std.proofs.lemmas.List.Elements.{All-append, All-filter, All-map}
use Rattle.std.specs.Cmp.Lexicographic.{pointwise}
use Rattle.std.specs.Prelude.{nat_eq}
use Rattle.cf_lookup.specs.Scope.{OpenScopes, all_found, all_in, found_in, in_scope, named_in, file_scope}
use Rattle.cf_elab.specs.Env.{Name}
use Rattle.cf_elab_env.specs.Holds.{AreNames}
use Rattle.cf_elab_env.proofs.Scoped.{All-none, All-one}

pub get_known : {A : Type 0} (P : A → Type 0) (xs : List A) (i : ℕ) (x : A) → All P xs → slice_get xs i ≡ Some x → P x
get_known P xs i x all at = subst P (get_or_from_slice_get xs i x x at) (all i x (slice_get_within xs i x at))

pub seen_known : {A B : Type 0} (f : A → B) (P : B → Type 0) (xs : List A) (i : ℕ) (x : A) → All P (map f xs) → slice_get xs i ≡ Some x → P (f x)
seen_known f P xs i x all at = get_known P (map f xs) i (f x) all (slice_get-map f xs i ∙ ap (option_map f) at)

pub in_scope_known : (count : ℕ) (name : Name) (names : List (Name × ℕ)) → AreNames count names → IfSome (in_scope name names) (λ n. n < count)
in_scope_known count name names all = All-lookup (λ n. n < count) (pointwise nat_eq name) names all

either_known : (count : ℕ) (a b : Option ℕ) → IfSome a (λ n. n < count) → IfSome b (λ n. n < count) → IfSome (option_or a b) (λ n. n < count)
either_known count None b h k = k
either_known count (Some x) b h k = h

pub found_known : (count : ℕ) (name : Name) (scopes : List (List (Name × ℕ))) → All (AreNames count) scopes → IfSome (found_in name scopes) (λ n. n < count)
found_known count name [] all = tt
found_known count name (s ∷ rest) all =
    either_known count (found_in name rest) (in_scope name s) (found_known count name rest (λ i d w. all (suc i) d (omega arith))) (in_scope_known count name s (all 0 s (omega arith)))

pub file_known : (count : ℕ) (name : Name) (scopes : OpenScopes) → All (AreNames count) scopes.outer → AreNames count scopes.inner
    → IfSome (in_scope name (file_scope scopes)) (λ n. n < count)
file_known count name scopes outer inner = by scopes.outer outer
  where
    by : (o : List (List (Name × ℕ))) → All (AreNames count) o → IfSome (in_scope name (file_scope (record { outer = o; inner = scopes.inner }))) (λ n. n < count)
    by [] all = in_scope_known count name scopes.inner inner
    by (s ∷ rest) all = in_scope_known count name s (all 0 s (omega arith))

pub any_known : (count : ℕ) (name : Name) (scopes : OpenScopes) → All (AreNames count) scopes.outer → AreNames count scopes.inner
    → IfSome (found_in name (scopes.outer ++ scopes.inner ∷ [])) (λ n. n < count)
any_known count name scopes outer inner =
    found_known count name (scopes.outer ++ scopes.inner ∷ []) (All-append (AreNames count) scopes.outer (scopes.inner ∷ []) outer (All-one (AreNames count) scopes.inner inner))

-- the number that a look-up gives
pub below_known : (count : ℕ) (given wanted : Option ℕ) (id n : ℕ) → IfSome wanted (λ n. n < count) → given ≡ wanted → given ≡ Some id → n ≡ id → n < count
below_known count given wanted id n known is there same =
    let P : Option ℕ → Type 0 = λ o. IfSome o (λ n. n < count) in
    let below : id < count = subst P (sym is ∙ there) known in
    subst (λ k. k < count) (sym same) below

-- ---- all that a name is found as

pub named_known : (count : ℕ) (name : Name) (names : List (Name × ℕ)) → AreNames count names → All (λ n. n < count) (named_in name names)
named_known count name names all =
    All-map (λ n. n < count) (λ (x : Name × ℕ). x.1) (filter (λ (x : Name × ℕ). pointwise nat_eq name x.0) names)
    (All-filter (λ (x : Name × ℕ). pointwise nat_eq name x.0) (λ (x : Name × ℕ). x.1 < count) names all)

all_named_known : (count : ℕ) (name : Name) (scopes : List (List (Name × ℕ))) → All (AreNames count) scopes → All (λ n. n < count) (all_in name scopes)
all_named_known count name [] all = All-none (λ n. n < count)
all_named_known count name (s ∷ rest) all =
    All-append (λ n. n < count) (all_in name rest) (named_in name s) (all_named_known count name rest (λ i d w. all (suc i) d (omega arith)))
    (named_known count name s (all 0 s (omega arith)))

pub all_found_known : (count : ℕ) (name : Name) (scopes : OpenScopes) → All (AreNames count) scopes.outer → AreNames count scopes.inner → All (λ n. n < count) (all_found name scopes)
all_found_known count name scopes outer inner =
    all_named_known count name (scopes.outer ++ scopes.inner ∷ []) (All-append (AreNames count) scopes.outer (scopes.inner ∷ []) outer (All-one (AreNames count) scopes.inner inner))
