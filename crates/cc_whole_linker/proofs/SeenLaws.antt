-- What is left of the items that are gone over.
use Rattle.std.proofs.Common.{◌≡◌, ◌∙◌, ℕ, suc, ◌+◌, ◌<◌, ◌≤◌, List, [], ◌∷◌, ◌++◌, length, get_or, take, drop, ap, sym, drop-cons, drop_of_length-le, add-one}
use Rattle.std.proofs.lemmas.List.{map_more, map-append}
use Rattle.cc_whole_placed.specs.declared.placed.PlacedItem.{PlacedItem}
use Rattle.cc_whole_placed.specs.Seen.{placed_of}
use Rattle.cc_whole_linker.specs.Rules.{seen}

pub seen_left : (xs : List PlacedItem) (i : ℕ) (x : PlacedItem) → i < length xs → x ≡ get_or xs i x → seen (drop i xs) ≡ placed_of x ∷ seen (drop (i + 1) xs)
seen_left xs i x lt e = ap seen (drop-cons xs i x lt ∙ ap (λ y. y ∷ drop (suc i) xs) (sym e) ∙ ap (λ k. x ∷ drop k xs) (sym (add-one i)))

pub seen_more : (xs : List PlacedItem) (i : ℕ) (x : PlacedItem) → i < length xs → x ≡ get_or xs i x → seen (take (i + 1) xs) ≡ seen (take i xs) ++ placed_of x ∷ []
seen_more xs i x lt e = map_more placed_of xs i x lt ∙ ap (λ y. seen (take i xs) ++ placed_of y ∷ []) (sym e)

pub seen_none : (xs : List PlacedItem) (i : ℕ) → length xs ≤ i → seen (drop i xs) ≡ []
seen_none xs i past = ap seen (drop_of_length-le xs past)

pub seen_behind : (xs : List PlacedItem) (x : PlacedItem) → seen (xs ++ x ∷ []) ≡ seen xs ++ placed_of x ∷ []
seen_behind xs x = map-append placed_of xs (x ∷ [])
