use Rattle.std.proofs.Common.{◌≡◌, ◌∙◌, ◌<◌, ℕ, List, false, Option, Some, length, get_or, take, ap, sym, subst, arith}
use Rattle.std.specs.Prelude.{bytes_eq}
use Rattle.std.specs.List.{list_any}
use Rattle.std.proofs.lemmas.List.{get_or-map, length-map, take-map}
use Rattle.cc_whole_link.specs.Placed.{Placed, its_name}
use Rattle.cc_whole_placed.specs.declared.placed.PlacedItem.{PlacedItem}
use Rattle.cc_whole_placed.specs.Seen.{placed_of}
use Rattle.cc_whole_linker.specs.Earlier.{IsPlaced, Sought, Passes}
use Rattle.cc_whole_linker.specs.Rules.{seen}
use Rattle.cc_whole_linker.proofs.LastLaws.{last-within, none-named, passes-at, placed-front}
use Rattle.cc_whole_linker.proofs.earlier.Earlier.next.Goals as goal

within : (name : List ℕ) (before : List PlacedItem) (places : List (Option ℕ)) (last : Option ℕ) (i : ℕ) → IsPlaced name (seen before) places last → last ≡ Some i → i < length before
within name before places last i p is = subst (λ n. i < n) (length-map before placed_of) (last-within name (seen before) i (sym p.here ∙ is))

there : (before : List PlacedItem) (i : ℕ) (x : PlacedItem) → i < length before → x ≡ get_or before i x → placed_of x ≡ get_or (seen before) i (placed_of x)
there before i x lt e = ap placed_of e ∙ sym (get_or-map placed_of before i x (placed_of x) lt)

cut : (before front : List PlacedItem) (i : ℕ) → front ≡ take i before → seen front ≡ take i (seen before)
cut before front i e = ap seen e ∙ sym (take-map placed_of i before)

pub item_at-other-requires : goal.item_at-other-requires
item_at-other-requires c =
    let self = c.self.inside in
    within self.name.now self.before.now self.places.now self.last c.in-Some.place c.self.invariant c.in-Some.is

pub items_before-before-requires : goal.items_before-before-requires
items_before-before-requires c =
    let self = c.self.inside in
    let lt : c.in-Some.place < length self.before.now = within self.name.now self.before.now self.places.now self.last c.in-Some.place c.self.invariant c.in-Some.is in
    omega (arith, lt)

pub place_at-last-requires : goal.place_at-last-requires
place_at-last-requires c =
    let self = c.self.inside in
    let lt : c.in-Some.place < length self.before.now = within self.name.now self.before.now self.places.now self.last c.in-Some.place c.self.invariant c.in-Some.is in
    let long = c.self.invariant.known.long in
    omega (arith, lt, long, length-map self.before.now placed_of)

pub invariant_of-self : goal.invariant_of-self
invariant_of-self c =
    let self = c.self.inside in
    let i = c.in-Some.place in
    let lt : i < length self.before.now = within self.name.now self.before.now self.places.now self.last i c.self.invariant c.in-Some.is in
    placed-front self.name.now (seen self.before.now) (seen c.items_before-before.result.now) self.places.now self.last i (placed_of c.item_at-other.result.now) c.place_at-last.result
    c.self.invariant c.in-Some.is (there self.before.now i c.item_at-other.result.now lt c.item_at-other.ensures) c.place_at-last.ensures
    (cut self.before.now c.items_before-before.result.now i c.items_before-before.ensures)

pub returns-in-None : goal.returns-in-None
returns-in-None c =
    subst (λ (s : Sought). list_any (λ (b : Placed). bytes_eq (its_name b) s.name) s.items ≡ false) c.self.view_is
    (none-named c.self.inside.name.now (seen c.self.inside.before.now) (sym c.self.invariant.here ∙ c.in-None.is))

pub returns-in-Some : goal.returns-in-Some
returns-in-Some c =
    let self = c.self.inside in
    let i = c.in-Some.place in
    let lt : i < length self.before.now = within self.name.now self.before.now self.places.now self.last i c.self.invariant c.in-Some.is in
    subst (λ (s : Sought). Passes s (placed_of c.item_at-other.result.now) (record { name = self.name.now; items = seen c.items_before-before.result.now })) c.self.view_is
    (passes-at self.name.now (seen self.before.now) (seen c.items_before-before.result.now) i (placed_of c.item_at-other.result.now) (sym c.self.invariant.here ∙ c.in-Some.is)
    (there self.before.now i c.item_at-other.result.now lt c.item_at-other.ensures) (cut self.before.now c.items_before-before.result.now i c.items_before-before.ensures))
