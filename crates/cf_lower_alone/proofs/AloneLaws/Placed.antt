-- Linking of one unit: its items with their names in the program, and `main`.
use Rattle.std.proofs.Common.{◌≡◌, ℕ, Bool, true, false, ◌&&◌, ◌||◌, cond, List, [], ◌∷◌, ◌++◌, map, Result, Ok, Err, refl, ap, sym, subst, ◌∙◌, inl, inr, ◌⊎◌, append-nil}
use Rattle.std.specs.Prelude.{bytes_eq, codes}
use Rattle.std.specs.List.{list_any}
use Rattle.std.proofs.lemmas.Bool.{true≢false}
use Rattle.std.proofs.lemmas.List.{map-append}
use Rattle.cf_base.proofs.Tests.{both, same_bytes, bytes_same}
use Rattle.cc_whole.specs.declared.unit.CItem.{CItem}
use Rattle.cc_whole.specs.declared.unit.CProgram.{CProgram}
use Rattle.cc_whole.specs.declared.unit.CUnit.{CUnit}
use Rattle.cc_whole.specs.Known.{is_in}
use Rattle.cc_whole.specs.Plain.{item_of, items_of, name_of}
use Rattle.cc_whole.specs.Valid.{is_definition, defined_after}
use Rattle.cc_whole_link.specs.Rename.{Renaming, item_renamed}
use Rattle.cc_whole_link.specs.Placed.{Placed, placed, placed_units, statics, static_renaming, longer, its_name, defines_it, is_shared, is_shared_item, defines_named}
use Rattle.cc_whole_link.specs.Link.{Refusal, is_the_main, repeats, kept_items, added_main, with_main, Links, version, broken, linked}
use Rattle.cc_whole_sections.specs.Sections.{In, Every, item_name, DefinedOnce}
use Rattle.cf_lower_valid.proofs.Inner.{every-append}
use Rattle.cf_lower_valid.proofs.Others.{named-name}
use Rattle.cf_lower_alone.proofs.AloneLaws.Items.{name-as, definition-as, shared-as}

not-true : (b : Bool) → (b ≡ true → ⊥) → b ≡ false
not-true true h = absurd (h refl)
not-true false h = refl

neither : (a b : Bool) → a ≡ false → b ≡ false → (a || b) ≡ false
neither a b e h = ap (λ t. t || b) e ∙ h

or-right : (a b : Bool) → b ≡ true → (a || b) ≡ true
or-right true b e = refl
or-right false b e = e

module _ (names : List (List ℕ)) where
  abbrev r : Renaming
  r = static_renaming 1 names

  abbrev at : CItem → Placed
  at i = placed 1 names i

  -- what is shared keeps its name
  abbrev pub Stays : CItem → Type 0
  Stays i = is_shared_item (item_of i) ≡ true → is_in names (name_of (item_of i)) ≡ false

  stays : (i : CItem) → Stays i → is_shared_item (item_of i) ≡ true → r (name_of (item_of i)) ≡ name_of (item_of i)
  stays i s shared = ap (λ b. cond b (longer 1 (name_of (item_of i))) (name_of (item_of i))) (s shared)

  abbrev same : CItem → Placed → Bool
  same i b = defines_named (its_name (at i)) b && (is_shared (at i) && is_shared b)

  record Same (b i : CItem) : Type 0 where
    defined : is_definition (item_of b) ≡ true
    named : name_of (item_of b) ≡ name_of (item_of i)

  same-name : (b i : CItem) → Stays b → Stays i → same i (at b) ≡ true → Same b i
  same-name b i sb si e =
      let x = both (defines_named (its_name (at i)) (at b)) (is_shared (at i) && is_shared (at b)) e in
      let y = both (defines_it (at b)) (bytes_eq (its_name (at b)) (its_name (at i))) x.0 in
      let z = both (is_shared (at i)) (is_shared (at b)) x.1 in
      record {
        defined = sym (definition-as b r) ∙ y.0;
        named = sym (stays b sb (sym (shared-as b r) ∙ z.1)) ∙ sym (name-as b r) ∙ same_bytes (its_name (at b)) (its_name (at i)) y.1 ∙ name-as i r
            ∙ stays i si (sym (shared-as i r) ∙ z.0);
      }

  abbrev There : List (List ℕ) → CItem → Type 0
  There defined b = is_definition (item_of b) ≡ true → is_in defined (name_of (item_of b)) ≡ true

  none-same : (i : CItem) (defined : List (List ℕ)) (bs : List CItem) → Stays i → is_in defined (name_of (item_of i)) ≡ false → Every Stays bs → Every (There defined) bs
      → list_any (same i) (map at bs) ≡ false
  none-same i defined [] si out sb th = refl
  none-same i defined (b ∷ bs) si out sb th =
      neither (same i (at b)) (list_any (same i) (map at bs))
      (not-true (same i (at b))
      (λ e. let s = same-name b i (sb b (inl refl)) si e in true≢false (sym (th b (inl refl) s.defined) ∙ ap (is_in defined) s.named ∙ out)))
      (none-same i defined bs si out (λ y k. sb y (inr k)) (λ y k. th y (inr k)))

  no-repeat : (i : CItem) (defined : List (List ℕ)) (bs : List CItem) → Stays i → (is_definition (item_of i) ≡ true → is_in defined (item_name (item_of i)) ≡ false)
      → Every Stays bs → Every (There defined) bs → repeats (map at bs) (at i) ≡ false
  no-repeat i defined bs si out sb th = go (defines_it (at i)) refl
    where
      go : (d : Bool) → defines_it (at i) ≡ d → (d && list_any (same i) (map at bs)) ≡ false
      go false e = refl
      go true e =
          none-same i defined bs si (ap (is_in defined) (sym (named-name (item_of i))) ∙ out (sym (definition-as i r) ∙ e)) sb th

  there-more : (i : CItem) (defined : List (List ℕ)) → Every (There (defined_after (item_of i) defined)) (i ∷ [])
  there-more i defined b (inl e) =
      subst (There (defined_after (item_of i) defined)) e
      (λ d. ap (λ c. is_in (cond c (name_of (item_of i) ∷ defined) defined) (name_of (item_of i))) d
      ∙ ap (λ c. c || is_in defined (name_of (item_of i))) (bytes_same (name_of (item_of i)) (name_of (item_of i)) refl))
  there-more i defined b (inr k) = absurd k

  there-on : (i b : CItem) (defined : List (List ℕ)) → There defined b → There (defined_after (item_of i) defined) b
  there-on i b defined h d = go (is_definition (item_of i))
    where
      go : (c : Bool) → is_in (cond c (name_of (item_of i) ∷ defined) defined) (name_of (item_of b)) ≡ true
      go true = or-right (bytes_eq (name_of (item_of i)) (name_of (item_of b))) (is_in defined (name_of (item_of b))) (h d)
      go false = h d

  kept-all : (bs is : List CItem) (defined : List (List ℕ)) → Every Stays bs → Every Stays is → Every (There defined) bs → DefinedOnce (items_of is) defined
      → kept_items (map at bs) (map at is) ≡ map (λ i. item_renamed i r) is
  kept-all bs [] defined sb si th once = refl
  kept-all bs (i ∷ is) defined sb si th once =
      let more : List CItem = bs ++ i ∷ [] in
      ap (λ b. cond b (kept_items (map at bs ++ at i ∷ []) (map at is)) (item_renamed i r ∷ kept_items (map at bs ++ at i ∷ []) (map at is)))
      (no-repeat i defined bs (si i (inl refl)) once.0 sb th)
      ∙ ap (λ l. item_renamed i r ∷ kept_items l (map at is)) (sym (map-append at bs (i ∷ [])))
      ∙ ap (λ l. item_renamed i r ∷ l)
      (kept-all more is (defined_after (item_of i) defined) (every-append Stays bs (i ∷ []) sb (λ y k. si y (only i is y k))) (λ y k. si y (inr k))
      (every-append (There (defined_after (item_of i) defined)) bs (i ∷ []) (λ y k. there-on i y defined (th y k)) (there-more i defined)) once.1)
    where
      only : (i : CItem) (is : List CItem) (y : CItem) → (i ≡ y) ⊎ ⊥ → (i ≡ y) ⊎ In y is
      only i is y (inl e) = inl e
      only i is y (inr k) = absurd k

-- ---- the program

items_same : (p q : CProgram) → ◌≡◌ {A = Result CProgram Refusal} (Ok p) (Ok q) → q.items ≡ p.items
items_same p q e = let same : q ≡ p = cc in ap (λ (x : CProgram). x.items) same

-- where no unit defines `main`
pub record WithMain (all : List Placed) (program : CProgram) : Type 0 where
  pub items : program.items ≡ kept_items [] all ++ added_main all ∷ []
  pub called : list_any (defines_named (codes "__main")) all ≡ true

items-made : (all : List Placed) (program : CProgram) → list_any is_the_main all ≡ false → with_main all ≡ Ok program → WithMain all program
items-made all program none e =
    go (list_any (defines_named (codes "__main")) all) refl
    (sym (ap (λ a. cond a (Ok (record { items = kept_items [] all }))
    (cond (list_any (defines_named (codes "__main")) all) (Ok (record { items = kept_items [] all ++ added_main all ∷ [] })) (Err (record { rule = 4; name = codes "__main" })))) none)
    ∙ e)
  where
    go : (b : Bool) → list_any (defines_named (codes "__main")) all ≡ b
        → ◌≡◌ {A = Result CProgram Refusal} (cond b (Ok (record { items = kept_items [] all ++ added_main all ∷ [] })) (Err (record { rule = 4; name = codes "__main" }))) (Ok program)
        → WithMain all program
    go true is f = record { items = items_same (record { items = kept_items [] all ++ added_main all ∷ [] }) program f; called = is }
    go false is f = absurd (cc)

links-made : (units : List CUnit) (r : Result CProgram Refusal) → Links units r → (program : CProgram) → r ≡ Ok program → list_any is_the_main (placed_units 1 units) ≡ false
    → WithMain (placed_units 1 units) program
links-made units _ (version name v) program e none = absurd (cc)
links-made units _ (broken r v b) program e none = absurd (cc)
links-made units _ (linked v b) program e none = items-made (placed_units 1 units) program none e

-- what one unit of these items is linked to
pub record OneLinked (u : CUnit) (program : CProgram) : Type 0 where
  pub items : program.items ≡ map (λ i. item_renamed i (static_renaming 1 (statics (items_of u.items)))) u.items ++ added_main (placed_units 1 (u ∷ [])) ∷ []
  pub called : list_any (defines_named (codes "__main")) (map (placed 1 (statics (items_of u.items))) u.items) ≡ true

pub one-linked : (u : CUnit) (program : CProgram) → Every (Stays (statics (items_of u.items))) u.items → DefinedOnce (items_of u.items) []
    → list_any is_the_main (map (placed 1 (statics (items_of u.items))) u.items) ≡ false → Links (u ∷ []) (Ok program) → OneLinked u program
one-linked u program stay once none links =
    let names : List (List ℕ) = statics (items_of u.items) in
    let one : placed_units 1 (u ∷ []) ≡ map (placed 1 names) u.items = append-nil (map (placed 1 names) u.items) in
    let w = links-made (u ∷ []) (Ok program) links program refl (ap (list_any is_the_main) one ∙ none) in
    record {
      items = w.items
          ∙ ap (λ l. l ++ added_main (placed_units 1 (u ∷ [])) ∷ [])
          (ap (kept_items []) one ∙ kept-all names [] u.items [] (λ y k. absurd k) stay (λ y k. absurd k) once);
      called = ap (list_any (defines_named (codes "__main"))) (sym one) ∙ w.called;
    }
