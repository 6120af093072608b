-- Where the last item of a name stands, and what is behind it.
use Rattle.std.proofs.Common.{◌≡◌, ℕ, ◌+◌, ◌<◌, ◌≤◌, Bool, true, false, ◌||◌, List, [], ◌∷◌, ◌++◌, length, map, get_or, take, drop, refl, ap, sym, subst, ◌∙◌, arith, append_assoc, inl, inr, ◌⊎◌}
use Rattle.std.specs.Prelude.{Option, Some, None, reverse, bytes_eq, if◌then◌else◌}
use Rattle.std.specs.List.{list_any}
use Rattle.std.proofs.lemmas.List.{length-append, length-map, length-reverse, map-append, reverse-append, reverse-reverse, take-append-le, take-append-drop, take_at, get_or_append_left}
use Rattle.std.proofs.Math.Seq.{get_or-append_seam}
use Rattle.std.proofs.lemmas.List.Sorted.{list_any-IsPermutation, IsPermutation-reverse}
use Rattle.std.proofs.lemmas.Grind.{reverse_onto}
use Rattle.std.proofs.lemmas.Bool.{cases_lt}
use Rattle.cf_base.proofs.Tests.{same_bytes}
use Rattle.cf_name_places.specs.Places.{last_place}
use Rattle.cc_whole_link.specs.Placed.{Placed, its_name}
use Rattle.cc_whole_linker.specs.Earlier.{names_of, last_named, Chained, IsPlaced, Passes}

abbrev pub has_name : List ℕ → Placed → Bool
has_name name b = bytes_eq (its_name b) name

map-reverse : {A B : Type 0} (f : A → B) (xs : List A) → map f (reverse xs) ≡ reverse (map f xs)
map-reverse f [] = refl
map-reverse f (x ∷ xs) =
    ap (map f) (reverse_onto xs x []) ∙ map-append f (reverse xs) (x ∷ []) ∙ ap (λ l. l ++ f x ∷ []) (map-reverse f xs) ∙ sym (reverse_onto (map f xs) (f x) [])

none-reversed : (p : Placed → Bool) (xs : List Placed) → list_any p xs ≡ false → list_any p (reverse xs) ≡ false
none-reversed p xs e = sym (list_any-IsPermutation p xs (reverse xs) (IsPermutation-reverse xs)) ∙ e

-- in a list whose last item is first
record Behind (name : List ℕ) (items : List Placed) (i : ℕ) : Type 0 where
  left : List Placed
  other : Placed
  between : List Placed
  split : items ≡ between ++ other ∷ left
  long : length left ≡ i
  named : bytes_eq (its_name other) name ≡ true
  others : list_any (has_name name) between ≡ false

behind : (name : List ℕ) (items : List Placed) (i : ℕ) → last_place name (map its_name items) ≡ Some i → Behind name items i
behind name [] i e = absurd (cc)
behind name (x ∷ items) i e = by (behind name items i) (bytes_eq (its_name x) name) refl e
  where
    by : (last_place name (map its_name items) ≡ Some i → Behind name items i) → (b : Bool) → bytes_eq (its_name x) name ≡ b
        → (if b then Some (length (map its_name items)) else last_place name (map its_name items)) ≡ Some i → Behind name (x ∷ items) i
    by later true is at =
        let here : length (map its_name items) ≡ i = cc in
        record { left = items; other = x; between = []; split = refl; long = sym (length-map items its_name) ∙ here; named = is; others = refl }
    by later false is at =
        let found = later at in
        record {
          left = found.left;
          other = found.other;
          between = x ∷ found.between;
          split = ap (λ l. x ∷ l) found.split;
          long = found.long;
          named = found.named;
          others = ap (λ b. b || list_any (has_name name) found.between) is ∙ found.others;
        }

none-behind : (name : List ℕ) (items : List Placed) → last_place name (map its_name items) ≡ None → list_any (has_name name) items ≡ false
none-behind name [] e = refl
none-behind name (x ∷ items) e = by (none-behind name items) (bytes_eq (its_name x) name) e
  where
    by : (last_place name (map its_name items) ≡ None → list_any (has_name name) items ≡ false) → (b : Bool)
        → (if b then Some (length (map its_name items)) else last_place name (map its_name items)) ≡ None → (b || list_any (has_name name) items) ≡ false
    by later true at = absurd (cc)
    by later false at = later at

-- in a list whose last item is last
pub record LastAt (name : List ℕ) (items : List Placed) (i : ℕ) : Type 0 where
  pub left : List Placed
  pub other : Placed
  pub between : List Placed
  pub split : items ≡ left ++ other ∷ between
  pub long : length left ≡ i
  pub named : bytes_eq (its_name other) name ≡ true
  pub others : list_any (has_name name) between ≡ false

in-reverse : (name : List ℕ) (items : List Placed) → last_named name items ≡ last_place name (map its_name (reverse items))
in-reverse name items = ap (last_place name) (sym (map-reverse its_name items))

pub last-at : (name : List ℕ) (items : List Placed) (i : ℕ) → last_named name items ≡ Some i → LastAt name items i
last-at name items i e =
    let found = behind name (reverse items) i (sym (in-reverse name items) ∙ e) in
    record {
      left = reverse found.left;
      other = found.other;
      between = reverse found.between;
      split =
          sym (reverse-reverse items) ∙ ap reverse found.split ∙ reverse-append found.between (found.other ∷ found.left)
          ∙ ap (λ l. l ++ reverse found.between) (reverse_onto found.left found.other []) ∙ append_assoc (reverse found.left) (found.other ∷ []) (reverse found.between);
      long = length-reverse found.left ∙ found.long;
      named = found.named;
      others = none-reversed (has_name name) found.between found.others;
    }

pub none-named : (name : List ℕ) (items : List Placed) → last_named name items ≡ None → list_any (has_name name) items ≡ false
none-named name items e =
    ap (list_any (has_name name)) (sym (reverse-reverse items))
    ∙ none-reversed (has_name name) (reverse items) (none-behind name (reverse items) (sym (in-reverse name items) ∙ e))

-- the place is one of the items
pub last-within : (name : List ℕ) (items : List Placed) (i : ℕ) → last_named name items ≡ Some i → i < length items
last-within name items i e =
    let found = last-at name items i e in
    let whole = ap length found.split ∙ length-append found.left (found.other ∷ found.between) in
    omega (arith, whole, found.long)

-- the item at that place is passed
pub passes-at : (name : List ℕ) (items front : List Placed) (i : ℕ) (other : Placed) → last_named name items ≡ Some i → other ≡ get_or items i other → front ≡ take i items
    → Passes (record { name = name; items = items }) other (record { name = name; items = front })
passes-at name items before i other e at cut =
    let found = last-at name items i e in
    let same : other ≡ found.other =
    at ∙ ap (λ l. get_or l i other) found.split ∙ ap (λ n. get_or (found.left ++ found.other ∷ found.between) n other) (sym found.long)
    ∙ get_or-append_seam found.left found.other found.between other in
    let front : before ≡ found.left = cut ∙ ap (take i) found.split ∙ take_at found.left (found.other ∷ found.between) i found.long in
    record {
      same_name = refl;
      named = ap (λ (b : Placed). has_name name b) same ∙ found.named;
      between = found.between;
      split = found.split ∙ ap (λ l. l ++ found.other ∷ found.between) (sym front) ∙ ap (λ b. before ++ b ∷ found.between) (sym same);
      others = found.others;
    }

-- ---- the places of the last ones before

module _ (left rest : List Placed) (places : List (Option ℕ)) where
  -- the first items alone
  pub chained-front : Chained (left ++ rest) places → Chained left places
  chained-front c = record {
    long = let l = c.long in omega (arith, l, length-append left rest);
    places = λ i item place within at there.
        c.places i item place (omega (arith, within, length-append left rest)) (at ∙ sym (get_or_append_left left rest item i within)) there
        ∙ ap (last_named (its_name item)) (take-append-le i left rest (omega (arith, within)));
  }

-- what is known before an item
pub placed-before : (before : List Placed) (item : Placed) (places : List (Option ℕ)) (name : List ℕ) (n : ℕ) (next : Option ℕ) → Chained (before ++ item ∷ []) places
    → name ≡ its_name item → n ≡ length before → next ≡ get_or places n next → IsPlaced name before places next
placed-before before item places name n next c named end at = record {
  known = chained-front before (item ∷ []) places c;
  here =
      c.places n item next (omega (arith, end, length-append before (item ∷ [])))
      (sym (ap (λ k. get_or (before ++ item ∷ []) k item) end ∙ get_or-append_seam before item [] item)) at
      ∙ ap (last_named (its_name item)) (take_at before (item ∷ []) n (sym end)) ∙ ap (λ k. last_named k before) (sym named);
}

-- what is known before the last item of the name
pub placed-front : (name : List ℕ) (items front : List Placed) (places : List (Option ℕ)) (last : Option ℕ) (i : ℕ) (other : Placed) (next : Option ℕ)
    → IsPlaced name items places last → last ≡ Some i → other ≡ get_or items i other → next ≡ get_or places i next → front ≡ take i items → IsPlaced name front places next
placed-front name items front places last i other next p is at there cut =
    let e : last_named name items ≡ Some i = sym p.here ∙ is in
    let same : its_name other ≡ name = same_bytes (its_name other) name (passes-at name items front i other e at cut).named in
    record {
      known = chained-front front (drop i items) places (subst (λ l. Chained l places) (sym (take-append-drop i items) ∙ ap (λ l. l ++ drop i items) (sym cut)) p.known);
      here = p.known.places i other next (last-within name items i e) at there ∙ ap (λ n. last_named n (take i items)) same ∙ ap (last_named name) (sym cut);
    }

-- one item more
pub names-behind : (items : List Placed) (item : Placed) → names_of (items ++ item ∷ []) ≡ its_name item ∷ names_of items
names-behind items item = ap reverse (map-append its_name items (item ∷ [])) ∙ reverse-append (map its_name items) (its_name item ∷ [])

pub chained-more : (items : List Placed) (item : Placed) (places : List (Option ℕ)) (place : Option ℕ) → Chained items places → length places ≡ length items
    → place ≡ last_named (its_name item) items → Chained (items ++ item ∷ []) (places ++ place ∷ [])
chained-more items item places place c same is = record {
  long = omega (arith, same, length-append items (item ∷ []), length-append places (place ∷ []));
  places = λ i other at within there here. by i other at within there here (cases_lt i (length items));
}
  where
    by : (i : ℕ) (other : Placed) (at : Option ℕ) → i < length (items ++ item ∷ []) → other ≡ get_or (items ++ item ∷ []) i other → at ≡ get_or (places ++ place ∷ []) i at
        → (i < length items) ⊎ (length items ≤ i) → at ≡ last_named (its_name other) (take i (items ++ item ∷ []))
    by i other at within there here (inl before) =
        c.places i other at before (there ∙ get_or_append_left items (item ∷ []) other i before)
        (here ∙ get_or_append_left places (place ∷ []) at i (omega (arith, same, before)))
        ∙ ap (last_named (its_name other)) (sym (take-append-le i items (item ∷ []) (omega (arith, before))))
    by i other at within there here (inr past) =
        let end : i ≡ length items = omega (arith, within, past, length-append items (item ∷ [])) in
        let it : other ≡ item = there ∙ ap (λ n. get_or (items ++ item ∷ []) n other) end ∙ get_or-append_seam items item [] other in
        let its : at ≡ place = here ∙ ap (λ n. get_or (places ++ place ∷ []) n at) (end ∙ sym same) ∙ get_or-append_seam places place [] at in
        its ∙ is ∙ ap (λ n. last_named n items) (ap its_name (sym it)) ∙ ap (last_named (its_name other)) (sym (take_at items (item ∷ []) i (sym end)))

pub long-more : (items whole : List Placed) (item : Placed) (places more : List (Option ℕ)) (place : Option ℕ) → whole ≡ items ++ item ∷ [] → more ≡ places ++ place ∷ []
    → length places ≡ length items → length more ≡ length whole
long-more items whole item places more place e f same =
    ap length f ∙ length-append places (place ∷ []) ∙ ap (λ n. n + 1) same ∙ sym (length-append items (item ∷ [])) ∙ ap length (sym e)
