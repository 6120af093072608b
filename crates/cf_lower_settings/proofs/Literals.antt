-- A literal that an initialiser names for the first time has its object in the literal's block.
use Rattle.std.proofs.Common.{◌≡◌, ℕ, suc, ◌<◌, Bool, true, false, ◌&&◌, ◌==◌, if◌then◌else◌, ◌∷◌, refl, sym, ◌∙◌, ap, subst, arith}
use Rattle.std.specs.Prelude.{cond, Some, find, bytes_eq}
use Rattle.std.proofs.lemmas.Bool.Decides.{nat_tests}
use Rattle.cf_base.proofs.Tests.{both, all_of, same_bytes, bytes_same}
use Rattle.cf_core.specs.Types.{Name}
use Rattle.cf_core.specs.Objects.{literal_of, found_literal}
use Rattle.cf_core.specs.Run.{State, Literal, upd}
use Rattle.cc_whole_memory.specs.Blocks.{Memory}
use Rattle.cf_lower_relate.specs.Map.{Fixed, Map, shown, Grows, extended, is_ended, is_hidden, is_shown}
use Rattle.cf_lower_relate.specs.Relation.{InCells, Rel, Stands}
use Rattle.cf_lower_relate.proofs.Births.{grows-extended, rel-born}
use Rattle.cf_lower_relate.proofs.Objects.{upd-same, upd-other, below-apart, cells-grow}
use Rattle.cf_lower_turns.specs.Texts.{Text, Texts, text_type, NewText, MadeText, TextAs, object_of_text, InTexts}
use Rattle.cf_lower_turns.proofs.Literals.{text-stays}
use Rattle.cf_lower_settings.specs.Set.{Standing, Later}

same-text : {x y : Text} → Some x ≡ Some y → x ≡ y
same-text e = cc

same-number : (i j : ℕ) → i == j ≡ true → i ≡ j
same-number i j e = grind (arith, nat_tests, e)

module _ (K : Fixed) (texts : Texts) (F : Map) (s : State) (m : Memory) (h : Standing K texts F s m) (j : ℕ) (x : Text)
    (is : texts s.frame.function j ≡ Some x) (a : NewText K F m x) where
  abbrev f : Name
  f = s.frame.function

  abbrev pub map_born : Map
  map_born = extended s.next (text_type x) x.block 0 shown F

  abbrev G : Map
  G = map_born

  abbrev pub state_born : State
  state_born = record s {
    next = suc s.next;
    object = upd s.next (literal_of x.bytes) s.object;
    literals = record { function = s.frame.function; number = j; object = s.next } ∷ s.literals;
  }

  count : F.count ≡ s.next
  count = h.rel.count

  grows : Grows F G
  grows = grows-extended F s.next (text_type x) x.block 0 shown (let e = count in omega (arith, e))

  pub old : (o : ℕ) → o < F.count → o == s.next ≡ false
  old o lo = below-apart s.next o (let e = count in omega (arith, e, lo))

  known : (o : ℕ) → o < G.count → o == s.next ≡ false → o < F.count
  known o lo e = let k = count in grind (arith, nat_tests, e, lo, k)

  stage-old : (o : ℕ) → o == s.next ≡ false → is_ended (G.stage o) ≡ false → is_ended (F.stage o) ≡ false
  stage-old o ne live = sym (ap is_ended (upd-other s.next o shown F.stage ne)) ∙ live

  -- a block in which it does not come to stand
  elsewhere : (o b : ℕ) → o < G.count → is_ended (G.stage o) ≡ false → G.block o ≡ b → (x.block ≡ b → ⊥)
      → (o < F.count → is_ended (F.stage o) ≡ false → F.block o ≡ b → ⊥) → ⊥
  elsewhere o b lo live e new before = by_test (o == s.next) refl
    where
      by_test : (q : Bool) → o == s.next ≡ q → ⊥
      by_test true q = new (sym (ap (λ (k : Bool). if k then x.block else F.block o) q) ∙ e)
      by_test false q = before (known o lo q) (stage-old o q live) (sym (upd-other s.next o x.block F.block q) ∙ e)

  stands-new : Stands K G s.next (literal_of x.bytes) m
  stands-new = record {
    block = a.block;
    there = ap m.block (upd-same s.next x.block F.block) ∙ a.there;
    size = let base = upd-same s.next 0 F.base in let room = a.size in omega (arith, base, room);
    cells = subst (λ q. InCells K G (literal_of x.bytes) q a.block.cells) (sym (upd-same s.next 0 F.base)) (cells-grow K F G grows (literal_of x.bytes) 0 a.block.cells a.cells);
  }

  rel-new : Rel K G state_born m
  rel-new =
      let r = rel-born K F s m h.rel (literal_of x.bytes) x.block 0 shown (h.laid.laid f j x is) refl refl (h.laid.below f j x is) a.free stands-new in
      record { count = r.count; type = r.type; laid = r.laid; gone = r.gone; stands = r.stands; below = r.below; apart = r.apart }

  pub made : MadeText G x s.next
  made = record {
    known = omega arith;
    type = upd-same s.next (text_type x) F.type;
    visible = ap is_hidden (upd-same s.next shown F.stage);
    block = λ e. upd-same s.next x.block F.block;
    base = λ e. upd-same s.next 0 F.base;
  }

  -- all literals, of which one is made now
  texts-new : InTexts K texts G state_born m
  texts-new e i k there = by_test (bytes_eq f e && (j == i)) refl
    where
      found : (b : Bool) → bytes_eq f e && (j == i) ≡ b
          → found_literal (cond b (Some (record { function = f; number = j; object = s.next })) (find (λ (l : Literal). bytes_eq l.function e && (l.number == i)) s.literals))
          ≡ object_of_text e i state_born
      found b q =
          sym (ap (λ (b : Bool). found_literal (cond b (Some (record { function = f; number = j; object = s.next }))
          (find (λ (l : Literal). bytes_eq l.function e && (l.number == i)) s.literals))) q)

      by_test : (b : Bool) → bytes_eq f e && (j == i) ≡ b → TextAs K G m k (object_of_text e i state_born)
      by_test true q =
          let two = both (bytes_eq f e) (j == i) q in
          let names : f ≡ e = same_bytes f e two.0 in
          let numbers : j ≡ i = same-number j i two.1 in
          let same : x ≡ k = same-text (sym is ∙ ap (λ m. texts m j) names ∙ ap (texts e) numbers ∙ there) in
          subst (TextAs K G m k) (found true q) (subst (λ m. MadeText G m s.next) same made)
      by_test false q =
          subst (TextAs K G m k) (found false q)
          (text-stays K F G grows m m k
          (λ free o lo live m. elsewhere o k.block lo live m (λ blocks. other-text q (h.laid.apart f e j i x k is there blocks)) (λ lm lv b. free o lm lv b))
          (λ free. refl) (object_of_text e i s) (h.literals e i k there))
        where
          true-false : {b : Bool} → b ≡ true → b ≡ false → ⊥
          true-false u v = absurd (cc)

          other-text : bytes_eq f e && (j == i) ≡ false → (f ≡ e) × (j ≡ i) → ⊥
          other-text q two =
              true-false (all_of (bytes_eq f e) (j == i) (bytes_same f e two.0) (let k : j ≡ i = two.1 in grind (arith, nat_tests, k))) q

  shown-new : (o : ℕ) → o < G.count → is_shown (G.stage o) ≡ true
  shown-new o lo = by_test (o == s.next) refl
    where
      by_test : (q : Bool) → o == s.next ≡ q → is_shown (G.stage o) ≡ true
      by_test true q = ap (λ (k : Bool). is_shown (if k then shown else F.stage o)) q
      by_test false q = ap is_shown (upd-other s.next o shown F.stage q) ∙ h.shown o (known o lo q)

  pub later-born : Later K texts F s m G state_born m
  later-born = record {
    wider = record {
      count = grows.count;
      block = λ o lt. upd-other s.next o x.block F.block (old o lt);
      base = λ o lt. upd-other s.next o 0 F.base (old o lt);
      type = λ o lt. upd-other s.next o (text_type x) F.type (old o lt);
      stage = λ o lt. upd-other s.next o shown F.stage (old o lt);
      free = λ b none free o lo live e. elsewhere o b lo live e (λ k. none f j x is k) (λ lm lv q. free o lm lv q);
    };
    standing = record { rel = rel-new; shown = shown-new; laid = h.laid; literals = texts-new };
    next = refl;
    elsewhere = λ b free. refl;
    depth = refl;
    finished = refl;
  }
