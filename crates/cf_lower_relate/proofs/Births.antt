-- Objects begin, come into a block of their own as parameters, and end.
use Rattle.std.proofs.Common.{◌≡◌, ℕ, suc, ◌≤◌, ◌<◌, Bool, true, false, ◌==◌, if◌then◌else◌, refl, sym, ◌∙◌, ap, subst, arith}
use Rattle.std.proofs.lemmas.Bool.Decides.{nat_tests}
use Rattle.cf_core.specs.Types.{SourceType}
use Rattle.cf_core.specs.Store.{Object}
use Rattle.cf_core.specs.Run.{State, upd, gone, with_object}
use Rattle.cc_whole_memory.specs.Blocks.{Memory}
use Rattle.cf_lower_layout.specs.Layout.{LaidOut}
use Rattle.cf_lower_relate.specs.Map.{Fixed, Map, Stage, hidden, shown, ended, is_ended, is_shown, is_hidden, Grows, extended, entered, without}
use Rattle.cf_lower_relate.specs.Relation.{Stands, Rel}
use Rattle.cf_lower_relate.proofs.Objects.{upd-cases, upd-same, upd-other, below-apart, stands-kept}

stage-ended : (st : Stage) → is_hidden st ≡ true → is_ended st ≡ false
stage-ended hidden h = refl
stage-ended shown h = absurd (cc)
stage-ended ended h = absurd (cc)

true-false : {b : Bool} → b ≡ true → b ≡ false → ⊥
true-false h k = absurd (cc)

less-zero : (n m : ℕ) → n < suc m → n == m ≡ false → n < m
less-zero n m lt ne = grind (arith, nat_tests, lt, ne)

-- ---- maps

pub grows-extended : (F : Map) (o : ℕ) (t : SourceType) (b n : ℕ) (st : Stage) → F.count ≤ o → Grows F (extended o t b n st F)
grows-extended F o t b n st le = record {
  count = omega (arith, le);
  type = λ p lt. upd-other o p t F.type (old p lt);
  visible = λ p lt h. ap is_hidden (upd-other o p st F.stage (old p lt)) ∙ h;
  shown = λ p lt h k. sym (ap is_shown (upd-other o p st F.stage (old p lt))) ∙ k;
  block = λ p lt h k. upd-other o p b F.block (old p lt);
  base = λ p lt h k. upd-other o p n F.base (old p lt);
}
  where
    old : (p : ℕ) → p < F.count → p == o ≡ false
    old p lt = below-apart o p (omega (arith, lt, le))

pub grows-without : (F : Map) (o : ℕ) → Grows F (without o F)
grows-without F o = record {
  count = omega arith;
  type = λ p lt. refl;
  visible = λ p lt h. upd-cases (λ (st : Stage). is_hidden st ≡ false) o p ended F.stage (λ e. refl) (λ ne. h);
  shown = λ p lt h k. by_case p (upd-cases (λ (st : Stage). is_shown st ≡ true → is_shown (F.stage p) ≡ true) o p ended F.stage (λ e q. absurd (cc)) (λ ne q. q)) k;
  block = λ p lt h k. refl;
  base = λ p lt h k. refl;
}
  where
    by_case : (p : ℕ) → (is_shown (upd o ended F.stage p) ≡ true → is_shown (F.stage p) ≡ true) → is_shown (upd o ended F.stage p) ≡ true → is_shown (F.stage p) ≡ true
    by_case p f k = f k

pub grows-entered : (F : Map) (o b : ℕ) → is_hidden (F.stage o) ≡ true → Grows F (entered o b F)
grows-entered F o b is = record {
  count = omega arith;
  type = λ p lt. refl;
  visible = λ p lt h. upd-cases (λ (st : Stage). is_hidden st ≡ false) o p shown F.stage (λ e. refl) (λ ne. h);
  shown = λ p lt h k. sym (ap is_shown (upd-other o p shown F.stage (other p h))) ∙ k;
  block = λ p lt h k. upd-other o p b F.block (other p h);
  base = λ p lt h k. upd-other o p 0 F.base (other p h);
}
  where
    other : (p : ℕ) → is_hidden (F.stage p) ≡ false → p == o ≡ false
    other p h = by_test (p == o) refl
      where
        by_test : (b : Bool) → p == o ≡ b → p == o ≡ false
        by_test false e = e
        by_test true e =
            let same : p ≡ o = grind (arith, nat_tests, e) in
            absurd (true-false is (ap (λ q. is_hidden (F.stage q)) (sym same) ∙ h))

module _ (K : Fixed) (F : Map) (s : State) (m : Memory) (r : Rel K F s m) where
  -- ---- an object begins, in a block where none stands

  pub rel-born : (x : Object) (b n : ℕ) (st : Stage) → LaidOut K.classes x.type → is_ended st ≡ false → x.is_gone ≡ false → b < m.next
      → ((p : ℕ) → p < F.count → is_ended (F.stage p) ≡ false → F.block p ≡ b → ⊥)
      → Stands K (extended s.next x.type b n st F) s.next x m
      → Rel K (extended s.next x.type b n st F) (record s { next = suc s.next; object = upd s.next x s.object }) m
  rel-born x b n st laid live there below free h = record {
    count = refl;
    type = λ p lt. upd-cases (λ (z : Object). z.type ≡ upd s.next x.type F.type p) s.next p x s.object
        (λ e. sym (ap (upd s.next x.type F.type) e ∙ upd-same s.next x.type F.type))
        (λ ne. r.type p (old p lt ne) ∙ sym (upd-other s.next p x.type F.type ne));
    laid = λ p lt. upd-cases (λ (u : SourceType). LaidOut K.classes u) s.next p x.type F.type (λ e. laid) (λ ne. r.laid p (old p lt ne));
    gone = λ p lt. upd-cases (λ (z : Object). z.is_gone ≡ is_ended (upd s.next st F.stage p)) s.next p x s.object
        (λ e. there ∙ sym live ∙ sym (ap is_ended (ap (upd s.next st F.stage) e ∙ upd-same s.next st F.stage)))
        (λ ne. r.gone p (old p lt ne) ∙ sym (ap is_ended (upd-other s.next p st F.stage ne)));
    stands = λ p lt. upd-cases (λ (z : Object). is_ended (upd s.next st F.stage p) ≡ false → Stands K (extended s.next x.type b n st F) p z m) s.next p x s.object
        (λ e k. subst (λ q. Stands K (extended s.next x.type b n st F) q x m) (sym e) h)
        (λ ne k. stands-kept K F (extended s.next x.type b n st F) grows p (s.object p) m m
        (upd-other s.next p b F.block ne) (upd-other s.next p n F.base ne) refl (r.stands p (old p lt ne) (stage p ne k)));
    below = λ p lt. upd-cases (λ (c : ℕ). is_ended (upd s.next st F.stage p) ≡ false → c < m.next) s.next p b F.block
        (λ e k. below) (λ ne k. r.below p (old p lt ne) (stage p ne k));
    apart = apart;
  }
    where
      old : (p : ℕ) → p < suc s.next → p == s.next ≡ false → p < F.count
      old p lt ne = let q = less-zero p s.next lt ne in let e = r.count in omega (arith, q, e)

      stage : (p : ℕ) → p == s.next ≡ false → is_ended (upd s.next st F.stage p) ≡ false → is_ended (F.stage p) ≡ false
      stage p ne k = sym (ap is_ended (upd-other s.next p st F.stage ne)) ∙ k

      grows : Grows F (extended s.next x.type b n st F)
      grows = grows-extended F s.next x.type b n st (let e = r.count in omega (arith, e))

      apart : (p q : ℕ) → p < suc s.next → q < suc s.next → is_ended (upd s.next st F.stage p) ≡ false → is_ended (upd s.next st F.stage q) ≡ false
          → upd s.next b F.block p ≡ upd s.next b F.block q → p ≡ q
      apart p q lp lq ep eq same = by_tests (p == s.next) (q == s.next) refl refl
        where
          equal : (i : ℕ) → i == s.next ≡ true → i ≡ s.next
          equal i e = grind (arith, nat_tests, e)

          block_new : (i : ℕ) → i == s.next ≡ true → upd s.next b F.block i ≡ b
          block_new i e = ap (λ (t : Bool). if t then b else F.block i) e

          by_tests : (a c : Bool) → p == s.next ≡ a → q == s.next ≡ c → p ≡ q
          by_tests true true e f = equal p e ∙ sym (equal q f)
          by_tests true false e f =
              absurd (free q (old q lq f) (stage q f eq) (sym (upd-other s.next q b F.block f) ∙ sym same ∙ block_new p e))
          by_tests false true e f =
              absurd (free p (old p lp e) (stage p e ep) (sym (upd-other s.next p b F.block e) ∙ same ∙ block_new q f))
          by_tests false false e f =
              r.apart p q (old p lp e) (old q lq f) (stage p e ep) (stage q f eq)
              (sym (upd-other s.next p b F.block e) ∙ same ∙ upd-other s.next q b F.block f)

  -- ---- its storage ends

  pub rel-ended : (o : ℕ) → Rel K (without o F) (with_object o gone s) m
  rel-ended o = record {
    count = r.count;
    type = λ p lt. upd-cases (λ (z : Object). z.type ≡ F.type p) o p (gone (s.object o)) s.object
        (λ e. subst (λ q. (s.object q).type ≡ F.type p) e (r.type p lt)) (λ ne. r.type p lt);
    laid = r.laid;
    gone = λ p lt. upd-cases (λ (z : Object). z.is_gone ≡ is_ended (upd o ended F.stage p)) o p (gone (s.object o)) s.object
        (λ e. sym (ap is_ended (ap (upd o ended F.stage) e ∙ upd-same o ended F.stage)))
        (λ ne. r.gone p lt ∙ sym (ap is_ended (upd-other o p ended F.stage ne)));
    stands = λ p lt k. upd-cases (λ (z : Object). Stands K (without o F) p z m) o p (gone (s.object o)) s.object
        (λ e. absurd (dead p e k))
        (λ ne. stands-kept K F (without o F) (grows-without F o) p (s.object p) m m refl refl refl (r.stands p lt (stage p k)));
    below = λ p lt k. r.below p lt (stage p k);
    apart = λ p q lp lq ep eq same. r.apart p q lp lq (stage p ep) (stage q eq) same;
  }
    where
      dead : (p : ℕ) → p ≡ o → is_ended (upd o ended F.stage p) ≡ false → ⊥
      dead p e k = true-false (ap is_ended (ap (upd o ended F.stage) e ∙ upd-same o ended F.stage)) k

      stage : (p : ℕ) → is_ended (upd o ended F.stage p) ≡ false → is_ended (F.stage p) ≡ false
      stage p = upd-cases (λ (st : Stage). is_ended st ≡ false → is_ended (F.stage p) ≡ false) o p ended F.stage (λ e k. absurd (cc)) (λ ne k. k)

  -- ---- the object of a parameter comes into the block of the parameter

  pub rel-entered : (o b : ℕ) → is_hidden (F.stage o) ≡ true → b < m.next
      → ((p : ℕ) → p < F.count → is_ended (F.stage p) ≡ false → F.block p ≡ b → ⊥)
      → Stands K (entered o b F) o (s.object o) m → Rel K (entered o b F) s m
  rel-entered o b is below free h = record {
    count = r.count;
    type = r.type;
    laid = r.laid;
    gone = λ p lt. upd-cases (λ (st : Stage). (s.object p).is_gone ≡ is_ended st) o p shown F.stage
        (λ e. r.gone p lt ∙ ap (λ q. is_ended (F.stage q)) e ∙ stage-ended (F.stage o) is) (λ ne. r.gone p lt);
    stands = λ p lt k. by_test p lt k (p == o) refl;
    below = λ p lt k. upd-cases (λ (c : ℕ). c < m.next) o p b F.block (λ e. below) (λ ne. r.below p lt (stage p k));
    apart = apart;
  }
    where
      stage : (p : ℕ) → is_ended (upd o shown F.stage p) ≡ false → is_ended (F.stage p) ≡ false
      stage p = upd-cases (λ (st : Stage). is_ended st ≡ false → is_ended (F.stage p) ≡ false) o p shown F.stage
          (λ e k. ap (λ q. is_ended (F.stage q)) e ∙ stage-ended (F.stage o) is) (λ ne k. k)

      by_test : (p : ℕ) → p < F.count → is_ended (upd o shown F.stage p) ≡ false → (t : Bool) → p == o ≡ t → Stands K (entered o b F) p (s.object p) m
      by_test p lt k true e = let same : p ≡ o = grind (arith, nat_tests, e) in subst (λ q. Stands K (entered o b F) q (s.object q) m) (sym same) h
      by_test p lt k false ne =
          stands-kept K F (entered o b F) (grows-entered F o b is) p (s.object p) m m (upd-other o p b F.block ne) (upd-other o p 0 F.base ne) refl
          (r.stands p lt (stage p k))

      apart : (p q : ℕ) → p < F.count → q < F.count → is_ended (upd o shown F.stage p) ≡ false → is_ended (upd o shown F.stage q) ≡ false
          → upd o b F.block p ≡ upd o b F.block q → p ≡ q
      apart p q lp lq ep eq same = by_tests (p == o) (q == o) refl refl
        where
          equal : (i : ℕ) → i == o ≡ true → i ≡ o
          equal i e = grind (arith, nat_tests, e)

          block_new : (i : ℕ) → i == o ≡ true → upd o b F.block i ≡ b
          block_new i e = ap (λ (t : Bool). if t then b else F.block i) e

          by_tests : (a c : Bool) → p == o ≡ a → q == o ≡ c → p ≡ q
          by_tests true true e f = equal p e ∙ sym (equal q f)
          by_tests true false e f = absurd (free q lq (stage q eq) (sym (upd-other o q b F.block f) ∙ sym same ∙ block_new p e))
          by_tests false true e f = absurd (free p lp (stage p ep) (sym (upd-other o p b F.block e) ∙ same ∙ block_new q f))
          by_tests false false e f =
              r.apart p q lp lq (stage p ep) (stage q eq) (sym (upd-other o p b F.block e) ∙ same ∙ upd-other o q b F.block f)
