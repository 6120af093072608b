-- The first item that breaks a rule, from what one item breaks.
use Rattle.std.proofs.Common.{◌≡◌, ◌∙◌, ℕ, ◌+◌, ◌<◌, ◌≤◌, List, [], ◌∷◌, ◌++◌, length, get_or, take, drop, Option, Some, None, ap, sym, subst}
use Rattle.std.proofs.lemmas.List.{map-append, take-append-drop}
use Rattle.cc_whole_link.specs.Link.{Refusal, Breaks, FirstBroken, none, here, later}
use Rattle.cc_whole_link.specs.Placed.{Placed}
use Rattle.cc_whole_placed.specs.declared.placed.PlacedItem.{PlacedItem}
use Rattle.cc_whole_placed.specs.Seen.{placed_of}
use Rattle.cc_whole_linker.specs.Earlier.{Chained}
use Rattle.cc_whole_linker.specs.Rules.{seen}
use Rattle.cc_whole_linker.proofs.LastLaws.{chained-front}
use Rattle.cc_whole_linker.proofs.SeenLaws.{seen_left, seen_more, seen_none}

-- what the items from an index on break, if those before it break nothing
abbrev pub FromHere : List PlacedItem → ℕ → Option Refusal → Type 0
FromHere all i r = FirstBroken (seen all) (seen (take i all)) (seen (drop i all)) r

module _ (all : List PlacedItem) (i : ℕ) (p : PlacedItem) (within : i < length all) (there : p ≡ get_or all i p) where
  pub broken_here : (r : Refusal) → Breaks (seen all) (seen (take i all)) (placed_of p) (Some r) → FromHere all i (Some r)
  broken_here r b =
      subst (λ (l : List Placed). FirstBroken (seen all) (seen (take i all)) l (Some r)) (sym (seen_left all i p within there))
      (here (seen (take i all)) (placed_of p) (seen (drop (i + 1) all)) r b)

  pub broken_later : (r : Option Refusal) → Breaks (seen all) (seen (take i all)) (placed_of p) None → FromHere all (i + 1) r → FromHere all i r
  broken_later r b rest =
      subst (λ (l : List Placed). FirstBroken (seen all) (seen (take i all)) l r) (sym (seen_left all i p within there))
      (later (seen (take i all)) (placed_of p) (seen (drop (i + 1) all)) r b
      (subst (λ (l : List Placed). FirstBroken (seen all) l (seen (drop (i + 1) all)) r) (seen_more all i p within there) rest))

-- what is known of places up to an item
pub chained-here : (all : List PlacedItem) (i : ℕ) (p : PlacedItem) (places : List (Option ℕ)) → i < length all → p ≡ get_or all i p → Chained (seen all) places
    → Chained (seen (take i all) ++ placed_of p ∷ []) places
chained-here all i p places within there known =
    let split : seen all ≡ seen (take (i + 1) all) ++ seen (drop (i + 1) all) =
    ap seen (sym (take-append-drop (i + 1) all)) ∙ map-append placed_of (take (i + 1) all) (drop (i + 1) all) in
    subst (λ (l : List Placed). Chained l places) (seen_more all i p within there)
    (chained-front (seen (take (i + 1) all)) (seen (drop (i + 1) all)) places (subst (λ (l : List Placed). Chained l places) split known))

pub broken_nowhere : (all : List PlacedItem) (i : ℕ) → length all ≤ i → FromHere all i None
broken_nowhere all i past = subst (λ (l : List Placed). FirstBroken (seen all) (seen (take i all)) l None) (sym (seen_none all i past)) (none (seen (take i all)))
