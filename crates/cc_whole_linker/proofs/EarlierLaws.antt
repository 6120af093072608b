-- What is so of some item of a name, when the last one of them is passed.
use Rattle.std.proofs.Common.{◌≡◌, ◌↔◌, ◌∙◌, ℕ, ◌<◌, Bool, true, false, ◌&&◌, ◌||◌, not, List, [], ◌∷◌, ◌++◌, length, refl, ap, sym, subst, arith, inl, inr, ◌⊎◌}
use Rattle.std.specs.Prelude.{Option, Some, None, bytes_eq}
use Rattle.std.specs.List.{list_any}
use Rattle.std.proofs.lemmas.List.{length-append}
use Rattle.std.proofs.lemmas.List.Folds.{list_any-append}
use Rattle.cc_whole.specs.Plain.{item_of}
use Rattle.cc_whole.specs.Valid.{agrees, named_by}
use Rattle.cc_whole_link.specs.Link.{second, other_type, clashes, is_the_main, is_start, repeats, Differs}
use Rattle.cc_whole_link.specs.Placed.{Placed, its_name, defines_it, defines_named, is_shared}
use Rattle.cc_whole_linker.specs.Earlier.{Sought, Passes, Next}
use Rattle.cc_whole_linker.proofs.DifferLaws.{no-truth, no_other_name, differs_here, differs_behind, differs_either, differs_nowhere}
use Rattle.cc_whole_linker.specs.Rules.{DiffersFrom}

-- fewer are left
pub fewer : (old new : Sought) (other : Placed) → Passes old other new → length new.items < length old.items
fewer old new other p =
    let whole = ap length p.split ∙ length-append new.items (other ∷ p.between) in
    omega (arith, whole)

-- a test that only items of the name pass
module _ (test : Placed → Bool) (name : List ℕ) (by_name : (b : Placed) → bytes_eq (its_name b) name ≡ false → test b ≡ false) where
  nowhere : (items : List Placed) → list_any (λ (b : Placed). bytes_eq (its_name b) name) items ≡ false → list_any test items ≡ false
  nowhere [] e = refl
  nowhere (x ∷ items) e = by (nowhere items) (bytes_eq (its_name x) name) refl e
    where
      by : (list_any (λ (b : Placed). bytes_eq (its_name b) name) items ≡ false → list_any test items ≡ false) → (b : Bool) → bytes_eq (its_name x) name ≡ b
          → (b || list_any (λ (b : Placed). bytes_eq (its_name b) name) items) ≡ false → (test x || list_any test items) ≡ false
      by later true is none = absurd (cc)
      by later false is none = ap (λ t. t || list_any test items) (by_name x is) ∙ later none

  pub ended : (old new : Sought) → old.name ≡ name → Next old None new → list_any test old.items ≡ false
  ended old new same none = nowhere old.items (subst (λ n. list_any (λ (b : Placed). bytes_eq (its_name b) n) old.items ≡ false) same none)

  or-true : (a : Bool) → (a || true) ≡ true
  or-true true = refl
  or-true false = refl

  or-false : (a : Bool) → (a || false) ≡ a
  or-false true = refl
  or-false false = refl

  module _ (old new : Sought) (other : Placed) (p : Passes old other new) where
    pub found : test other ≡ true → list_any test old.items ≡ true
    found e =
        ap (list_any test) p.split ∙ list_any-append test new.items (other ∷ p.between)
        ∙ ap (λ t. list_any test new.items || (t || list_any test p.between)) e ∙ or-true (list_any test new.items)

    pub passed : old.name ≡ name → test other ≡ false → list_any test new.items ≡ list_any test old.items
    passed same e =
        let none = nowhere p.between (subst (λ n. list_any (λ (b : Placed). bytes_eq (its_name b) n) p.between ≡ false) same p.others) in
        sym (
        ap (list_any test) p.split ∙ list_any-append test new.items (other ∷ p.between)
        ∙ ap (λ t. list_any test new.items || (t || list_any test p.between)) e ∙ ap (λ t. list_any test new.items || t) none ∙ or-false (list_any test new.items))

pub none-of : {A : Type 0} (o : Option A) → ((a : A) → o ≡ Some a → ⊥) → o ≡ None
none-of None none = refl
none-of (Some a) none = absurd (none a refl)

-- ---- the tests

and-false : (a : Bool) → (a && false) ≡ false
and-false true = refl
and-false false = refl

defined-by_name : (name : List ℕ) (b : Placed) → bytes_eq (its_name b) name ≡ false → defines_named name b ≡ false
defined-by_name name b e = ap (λ t. defines_it b && t) e ∙ and-false (defines_it b)

pub second-by_name : (i b : Placed) → bytes_eq (its_name b) (its_name i) ≡ false → second i b ≡ false
second-by_name i b e = ap (λ t. t && not (is_shared i && is_shared b)) (defined-by_name (its_name i) b e)

pub again-by_name : (i b : Placed) → bytes_eq (its_name b) (its_name i) ≡ false → (defines_named (its_name i) b && (is_shared i && is_shared b)) ≡ false
again-by_name i b e = ap (λ t. t && (is_shared i && is_shared b)) (defined-by_name (its_name i) b e)

pub other_type-by_name : (i b : Placed) → bytes_eq (its_name b) (its_name i) ≡ false → other_type i b ≡ false
other_type-by_name i b e = ap (λ t. t && not (agrees (Some (named_by (item_of b.now)).meant) (named_by (item_of i.now)).meant)) e

pub repeats-is : (before : List Placed) (i : Placed) (b : Bool) → defines_it i ≡ true
    → list_any (λ (b : Placed). defines_named (its_name i) b && (is_shared i && is_shared b)) before ≡ b → repeats before i ≡ b
repeats-is before i b e f = ap (λ t. t && list_any (λ (b : Placed). defines_named (its_name i) b && (is_shared i && is_shared b)) before) e ∙ f

-- what is neither `main` nor called by it clashes with nothing
pub no-clash : (i : Placed) (before : List Placed) → (is_the_main i || is_start i) ≡ false → list_any (clashes i) before ≡ false
no-clash i [] e = refl
no-clash i (b ∷ before) e = ap (λ t. t || list_any (clashes i) before) (at (is_the_main i) (is_start i) (not _) (is_start b) (is_the_main b) e) ∙ no-clash i before e
  where
    at : (m s n x y : Bool) → (m || s) ≡ false → (n && ((m && x) || (s && y))) ≡ false
    at true s n x y e = absurd (cc)
    at false true n x y e = absurd (cc)
    at false false n x y e = and-false n

-- ---- shared definitions that differ

module _ (p : Placed) where
  differs-nowhere : (items : List Placed) → list_any (λ (b : Placed). bytes_eq (its_name b) (its_name p)) items ≡ false → Differs items p → ⊥
  differs-nowhere [] e d = differs_nowhere p d
  differs-nowhere (x ∷ items) e d = by (differs-nowhere items) (bytes_eq (its_name x) (its_name p)) refl e
    where
      by : (list_any (λ (b : Placed). bytes_eq (its_name b) (its_name p)) items ≡ false → Differs items p → ⊥) → (b : Bool) → bytes_eq (its_name x) (its_name p) ≡ b → (b || list_any (λ (b : Placed). bytes_eq (its_name b) (its_name p)) items) ≡ false → ⊥
      by later true is none = absurd (cc)
      by later false is none = at (differs_either p x items d)
        where
          at : DiffersFrom p x ⊎ Differs items p → ⊥
          at (inl one) = no-truth ((no_other_name p x (defined-by_name (its_name p) x is)).1 one)
          at (inr behind) = later none behind

  -- what stands behind others counts for nothing, where none of it differs
  differs-front : (items rest : List Placed) → (Differs rest p → ⊥) → Differs (items ++ rest) p ↔ Differs items p
  differs-front [] rest none = ((λ d. absurd (none d)), (λ d. absurd (differs_nowhere p d)))
  differs-front (x ∷ items) rest none = (
    (λ d. forth (differs-front items rest none) (differs_either p x (items ++ rest) d)),
    (λ d. back (differs-front items rest none) (differs_either p x items d)),
  )
    where
      forth : Differs (items ++ rest) p ↔ Differs items p → DiffersFrom p x ⊎ Differs (items ++ rest) p → Differs (x ∷ items) p
      forth step (inl one) = differs_here p x items one
      forth step (inr d) = differs_behind p x items (step.0 d)

      back : Differs (items ++ rest) p ↔ Differs items p → DiffersFrom p x ⊎ Differs items p → Differs (x ∷ (items ++ rest)) p
      back step (inl one) = differs_here p x (items ++ rest) one
      back step (inr d) = differs_behind p x (items ++ rest) (step.1 d)

  module _ (old new : Sought) (same : old.name ≡ its_name p) where
    pub differs-not : Next old None new → Differs old.items p → ⊥
    differs-not none = differs-nowhere old.items (subst (λ n. list_any (λ (b : Placed). bytes_eq (its_name b) n) old.items ≡ false) same none)

    module _ (other : Placed) (passes : Passes old other new) where
      pub differs-found : DiffersFrom p other → Differs old.items p
      differs-found one = subst (λ l. Differs l p) (sym passes.split) (put new.items)
        where
          put : (front : List Placed) → Differs (front ++ other ∷ passes.between) p
          put [] = differs_here p other passes.between one
          put (x ∷ front) = differs_behind p x (front ++ other ∷ passes.between) (put front)

      pub differs-passed : (DiffersFrom p other → ⊥) → Differs old.items p ↔ Differs new.items p
      differs-passed not_it = (
        (λ d. front.0 (subst (λ l. Differs l p) passes.split d)),
        (λ d. subst (λ l. Differs l p) (sym passes.split) (front.1 d)),
      )
        where
          none : list_any (λ (b : Placed). bytes_eq (its_name b) (its_name p)) passes.between ≡ false
          none = subst (λ n. list_any (λ (b : Placed). bytes_eq (its_name b) n) passes.between ≡ false) same passes.others

          at : DiffersFrom p other ⊎ Differs passes.between p → ⊥
          at (inl one) = not_it one
          at (inr d) = differs-nowhere passes.between none d

          front : Differs (new.items ++ other ∷ passes.between) p ↔ Differs new.items p
          front = differs-front new.items (other ∷ passes.between) (λ d. at (differs_either p other passes.between d))
