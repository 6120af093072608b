-- One more renamed part behind others.
use Rattle.std.proofs.Common.{◌≡◌, ◌∙◌, ℕ, ◌+◌, ◌<◌, List, [], ◌∷◌, ◌++◌, map, take, get_or, length, refl, ap, sym}
use Rattle.std.proofs.lemmas.List.{take_more, map-append}
use Rattle.cc_whole_link.specs.Rename.{Renaming, all_renamed}

renamed-append : {A : Type 0} (xs ys : List (Renaming → A)) (r : Renaming) → all_renamed (xs ++ ys) r ≡ all_renamed xs r ++ all_renamed ys r
renamed-append [] ys r = refl
renamed-append (x ∷ xs) ys r = ap (λ l. x r ∷ l) (renamed-append xs ys r)

pub renamed_more : {X A : Type 0} (f : X → Renaming → A) (xs : List X) (i : ℕ) (x : X) (r : Renaming) (a b : List A) → i < length xs → x ≡ get_or xs i x
    → a ≡ all_renamed (map f (take i xs)) r → b ≡ a ++ f x r ∷ [] → b ≡ all_renamed (map f (take (i + 1) xs)) r
renamed_more f xs i x r a b h e p q =
    rw (q, p, take_more xs i x h, ← e, map-append f (take i xs) (x ∷ []), renamed-append (map f (take i xs)) (map f (x ∷ [])) r) refl
