-- The items that are kept, with one more behind.
use Rattle.std.proofs.Common.{◌≡◌, ◌∙◌, ℕ, if◌then◌else◌, Bool, true, false, Option, List, [], ◌∷◌, ◌++◌, refl, ap, sym, subst, append_assoc}
use Rattle.std.specs.Prelude.{reverse}
use Rattle.std.proofs.lemmas.List.{append-nil, reverse-append}
use Rattle.cc_whole.specs.declared.unit.CItem.{CItem}
use Rattle.cc_whole_link.specs.Link.{repeats, kept_items}
use Rattle.cc_whole_link.specs.Placed.{Placed}
use Rattle.cc_whole_placed.specs.declared.placed.PlacedItem.{PlacedItem}
use Rattle.cc_whole_placed.specs.Seen.{placed_of}
use Rattle.cc_whole_linker.specs.Earlier.{Chained}
use Rattle.cc_whole_linker.specs.Rules.{seen}
use Rattle.cc_whole_linker.proofs.LastLaws.{chained-front}
use Rattle.cc_whole_linker.proofs.SeenLaws.{seen_behind}

-- what one item adds
abbrev pub one_kept : Bool → CItem → List CItem
one_kept true i = []
one_kept false i = i ∷ []

pub kept_behind : (before all : List Placed) (i : Placed) → kept_items before (all ++ i ∷ []) ≡ kept_items before all ++ one_kept (repeats (before ++ all) i) i.now
kept_behind before [] i = by (repeats before i) ∙ ap (λ l. one_kept (repeats l i) i.now) (sym (append-nil before))
  where
    by : (b : Bool) → (if b then [] else (i.now ∷ [])) ≡ one_kept b i.now
    by true = refl
    by false = refl
kept_behind before (x ∷ all) i =
    by (repeats before x)
    (kept_behind (before ++ x ∷ []) all i ∙ ap (λ l. kept_items (before ++ x ∷ []) all ++ one_kept (repeats l i) i.now) (append_assoc before (x ∷ []) all))
  where
    by : (b : Bool) → kept_items (before ++ x ∷ []) (all ++ i ∷ []) ≡ kept_items (before ++ x ∷ []) all ++ one_kept (repeats (before ++ x ∷ all) i) i.now
        → (if b then kept_items (before ++ x ∷ []) (all ++ i ∷ []) else (x.now ∷ kept_items (before ++ x ∷ []) (all ++ i ∷ [])))
        ≡ (if b then kept_items (before ++ x ∷ []) all else (x.now ∷ kept_items (before ++ x ∷ []) all)) ++ one_kept (repeats (before ++ x ∷ all) i) i.now
    by true rest = rest
    by false rest = ap (λ l. x.now ∷ l) rest

-- what is known of places, with one item less
module _ (left_before left : List PlacedItem) (last : PlacedItem) (popped : left_before ≡ left ++ last ∷ []) (places : List (Option ℕ)) (known : Chained (seen left_before) places) where
  pub with-last : Chained (seen left ++ placed_of last ∷ []) places
  with-last = subst (λ l. Chained l places) (ap seen popped ∙ seen_behind left last) known

  pub fewer-chained : Chained (seen left) places
  fewer-chained = chained-front (seen left) (placed_of last ∷ []) places with-last

module _ (left_before left : List PlacedItem) (last : PlacedItem) (kept : List CItem) (total : List CItem) (popped : left_before ≡ left ++ last ∷ [])
    (so_far : kept_items [] (seen left_before) ++ reverse kept ≡ total) where
  one_less : (b : Bool) → repeats (seen left) (placed_of last) ≡ b → kept_items [] (seen left_before) ≡ kept_items [] (seen left) ++ one_kept b last.now
  one_less b e =
      ap (λ l. kept_items [] (seen l)) popped ∙ ap (kept_items []) (seen_behind left last) ∙ kept_behind [] (seen left) (placed_of last)
      ∙ ap (λ t. kept_items [] (seen left) ++ one_kept t last.now) e

  pub last_kept : (more : List CItem) → repeats (seen left) (placed_of last) ≡ false → more ≡ kept ++ last.now ∷ [] → kept_items [] (seen left) ++ reverse more ≡ total
  last_kept more e h =
      ap (λ l. kept_items [] (seen left) ++ reverse l) h ∙ ap (λ l. kept_items [] (seen left) ++ l) (reverse-append kept (last.now ∷ []))
      ∙ sym (append_assoc (kept_items [] (seen left)) (last.now ∷ []) (reverse kept)) ∙ ap (λ l. l ++ reverse kept) (sym (one_less false e)) ∙ so_far

  pub last_left_out : repeats (seen left) (placed_of last) ≡ true → kept_items [] (seen left) ++ reverse kept ≡ total
  last_left_out e = ap (λ l. l ++ reverse kept) (sym (one_less true e ∙ append-nil (kept_items [] (seen left)))) ∙ so_far
