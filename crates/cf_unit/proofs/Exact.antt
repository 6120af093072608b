-- What is read by a rule is what tokens spell by it, and nothing else.
use Rattle.std.proofs.Common.{◌≡◌, ℕ, zero, suc, ◌<◌, ◌≤◌, Bool, true, false, ◌⊎◌, inl, inr, List, [], length, Option, Some, None, refl, sym, ◌∙◌, ap, subst, arith}
use Rattle.std.specs.Prelude.{is_some, nat_lt}
use Rattle.std.proofs.lemmas.Bool.Decides.{nat_tests}
use Rattle.cf_tokens.specs.declared.token.Token.{Token}
use Rattle.cf_syntax.specs.declared.reading.DeclaratorKind.TheVariants as kind
use Rattle.cf_syntax.specs.NamesData.{Names}
use Rattle.cf_syntax.specs.Parse.{Parse, with_rest}
use Rattle.cf_syntax.specs.Language.{Language, Many, ended, again}
use Rattle.cf_syntax.specs.Grammar.{inside}
use Rattle.cf_syntax.specs.Longest.{IsLongest}
use Rattle.cf_syntax.specs.Reading.{readers}
use Rattle.cf_syntax.proofs.Good.{Good, Meets, both-ways, some-is-not-none, some-value, split-rest}
use Rattle.cf_syntax.proofs.Inner.{behind_commas, behind_assign, behind_condition, behind_declarator}
use Rattle.cf_syntax.proofs.Whole.{all-good, read-longest, longest-read}
use Rattle.cf_syntax.proofs.Declarators.{good-params_in_brackets}
use Rattle.cf_unit.specs.Rule.{Form, commas, assign, condition, left_out, late, Rule, empty, exactly, expression, declarator, parameters, then, by, rather, unless, often, until, closed, twice, Begins, Taking, Element, AsOften, SpellsForm, spells}
use Rattle.cf_unit.specs.Read.{form_reading, chosen, first_of, kept, taking, element, turn, row, up_to, reading}

pub record Exact {A : Type 0} (p : Parse A) (L : Language A) : Type 0 where
  pub sound : (ts : List Token) (x : A) (rest : List Token) → p ts ≡ Some (x, rest) → L ts x rest
  pub complete : (ts : List Token) (x : A) (rest : List Token) → L ts x rest → p ts ≡ Some (x, rest)

-- ---- what is there and what isn't

pub not-begun : {A : Type 0} (p : Parse A) (L : Language A) → Exact p L → (ts : List Token) → p ts ≡ None → Begins L ts → ⊥
not-begun p L e ts none (x, rest, l) = some-is-not-none (p ts) (x, rest) none (e.complete ts x rest l)

pub not-read : {A : Type 0} (p : Parse A) (L : Language A) → Exact p L → (ts : List Token) → (Begins L ts → ⊥) → p ts ≡ None
not-read {A = A} p L e ts never = go (p ts) refl
  where
    go : (r : Option (A × List Token)) → p ts ≡ r → p ts ≡ None
    go None is = is
    go (Some q) is = absurd (never (q.0, q.1, e.sound ts q.0 q.1 is))

abbrev held : {A : Type 0} → A → List Token → A × List Token
held x rest = (x, rest)

none-is-some : {A P : Type 0} (z : A × List Token) → None ≡ Some z → P
none-is-some z e = some-is-not-none None z refl e

pub chosen-cases : {A P : Type 0} (b : Bool) (p q : Parse A) (ts : List Token) (z : A × List Token) → chosen b p q ts ≡ Some z
    → (b ≡ true → p ts ≡ Some z → P) → (b ≡ false → q ts ≡ Some z → P) → P
chosen-cases true p q ts z e left right = left refl e
chosen-cases false p q ts z e left right = right refl e

-- ---- leaves

exact-longest : {A : Type 0} (goes : List ℕ) (p : ℕ → Parse A) (L : ℕ → Language A) → ((n : ℕ) → Good goes (p n) (L n))
    → Exact (λ ts. p (suc (length ts)) ts) (λ ts x rest. IsLongest (λ us y after. L (suc (length us)) us y after) ts x rest)
exact-longest goes p L good = record {
  sound = λ ts x rest e. record {
    spells = (good (suc (length ts))).sound ts x rest e;
    longest = longest-read goes (p (suc (length ts))) (L (suc (length ts))) (good (suc (length ts))) ts x rest e;
  };
  complete = λ ts x rest l. read-longest goes (p (suc (length ts))) (L (suc (length ts))) (good (suc (length ts))) ts x rest l.spells l.longest;
}

exact-form : (form : Form) (names : Names) → Exact (form_reading form names) (λ ts x rest. IsLongest (SpellsForm form names) ts x rest)
exact-form commas names = exact-longest behind_commas (λ n. (readers n).commas names) (λ n. (inside n).commas names) (λ n. (all-good n).commas names)
exact-form assign names = exact-longest behind_assign (λ n. (readers n).assign names) (λ n. (inside n).assign names) (λ n. (all-good n).assign names)
exact-form condition names = exact-longest behind_condition (λ n. (readers n).condition names) (λ n. (inside n).condition names) (λ n. (all-good n).condition names)

exact-closed : {A : Type 0} (p : ℕ → Parse A) (L : ℕ → Language A) → ((n : ℕ) → Good [] (p n) (L n))
    → Exact (λ ts. p (suc (length ts)) ts) (λ ts x rest. L (suc (length ts)) ts x rest)
exact-closed {A = A} p L good = record {
  sound = λ ts x rest e. (good (suc (length ts))).sound ts x rest e;
  complete = λ ts x rest l. exactly_it (p (suc (length ts)) ts) x rest ((good (suc (length ts))).meets ts x rest l);
}
  where
    exactly_it : (r : Option (A × List Token)) (x : A) (rest : List Token) → Meets [] r x rest → r ≡ Some (x, rest)
    exactly_it r x rest (inl e) = e
    exactly_it r x rest (inr y) = absurd (clash y.on)
      where
        clash : false ≡ true → ⊥
        clash q = cc

-- ---- parts

exact-empty : {A : Type 0} (x : A) → Exact (λ ts. Some (x, ts)) (λ ts y rest. (y ≡ x) × (rest ≡ ts))
exact-empty {A = A} x = record {
  sound = λ ts y rest e. let same = some-value (held x ts) (held y rest) e in
      (ap (λ (z : A × List Token). z.0) (sym same), ap (λ (z : A × List Token). z.1) (sym same));
  complete = λ ts y rest l. ap (λ z. Some (z, ts)) (sym l.0) ∙ ap (λ z. Some (y, z)) (sym l.1);
}

exact-then : {A B : Type 0} (p : Parse A) (q : A → Parse B) (L : Language A) (M : A → Language B) → Exact p L → ((a : A) → Exact (q a) (M a))
    → Exact (λ ts. with_rest (p ts) q) (λ ts y rest. (a : A) × (mid : List Token) × L ts a mid × M a mid y rest)
exact-then p q L M one two = record {
  sound = λ ts y rest e. let s = split-rest (p ts) q (y, rest) e in
      (s.value, s.mid, one.sound ts s.value s.mid s.first, (two s.value).sound s.mid y rest s.second);
  complete = λ ts y rest (a, mid, l, m). ap (λ r. with_rest r q) (one.complete ts a mid l) ∙ (two a).complete mid y rest m;
}

exact-by : {A : Type 0} (test : List Token → Bool) (p q : Parse A) (L M : Language A) → Exact p L → Exact q M
    → Exact (λ ts. chosen (test ts) p q ts) (λ ts y rest. ((test ts ≡ true) × L ts y rest) ⊎ ((test ts ≡ false) × M ts y rest))
exact-by {A = A} test p q L M one two = record {
  sound = λ ts y rest e. chosen-cases (test ts) p q ts (y, rest) e (λ t h. inl (t, one.sound ts y rest h)) (λ f h. inr (f, two.sound ts y rest h));
  complete = λ ts y rest l. go ts y rest l;
}
  where
    go : (ts : List Token) (y : A) (rest : List Token) → ((test ts ≡ true) × L ts y rest) ⊎ ((test ts ≡ false) × M ts y rest)
        → chosen (test ts) p q ts ≡ Some (y, rest)
    go ts y rest (inl l) = ap (λ b. chosen b p q ts) l.0 ∙ one.complete ts y rest l.1
    go ts y rest (inr m) = ap (λ b. chosen b p q ts) m.0 ∙ two.complete ts y rest m.1

exact-rather : {A : Type 0} (p q : Parse A) (L M : Language A) → Exact p L → Exact q M
    → Exact (λ ts. first_of (p ts) q ts) (λ ts y rest. L ts y rest ⊎ ((Begins L ts → ⊥) × M ts y rest))
exact-rather {A = A} p q L M one two = record {
  sound = λ ts y rest e. found ts y rest (p ts) refl e;
  complete = λ ts y rest l. go ts y rest l;
}
  where
    found : (ts : List Token) (y : A) (rest : List Token) (r : Option (A × List Token)) → p ts ≡ r → first_of r q ts ≡ Some (y, rest)
        → L ts y rest ⊎ ((Begins L ts → ⊥) × M ts y rest)
    found ts y rest None is e = inr (not-begun p L one ts is, two.sound ts y rest e)
    found ts y rest (Some z) is e = inl (one.sound ts y rest (is ∙ e))

    go : (ts : List Token) (y : A) (rest : List Token) → L ts y rest ⊎ ((Begins L ts → ⊥) × M ts y rest) → first_of (p ts) q ts ≡ Some (y, rest)
    go ts y rest (inl l) = ap (λ r. first_of r q ts) (one.complete ts y rest l)
    go ts y rest (inr m) = ap (λ r. first_of r q ts) (not-read p L one ts m.0) ∙ two.complete ts y rest m.1

exact-unless : {A B : Type 0} (p : Parse B) (q : Parse A) (L : Language B) (M : Language A) → Exact p L → Exact q M
    → Exact (λ ts. chosen (is_some (p ts)) (λ us. None) q ts) (λ ts y rest. (Begins L ts → ⊥) × M ts y rest)
exact-unless {A = A} {B = B} p q L M one two = record {
  sound = λ ts y rest e. found ts y rest (p ts) refl (chosen-cases (is_some (p ts)) (λ us. None) q ts (y, rest) e (λ t h. none-is-some (y, rest) h) (λ f h. (f, h)));
  complete = λ ts y rest m. ap (λ r. chosen (is_some r) (λ us. None) q ts) (not-read p L one ts m.0) ∙ two.complete ts y rest m.1;
}
  where
    found : (ts : List Token) (y : A) (rest : List Token) (r : Option (B × List Token)) → p ts ≡ r → (is_some (p ts) ≡ false) × (q ts ≡ Some (y, rest))
        → (Begins L ts → ⊥) × M ts y rest
    found ts y rest None is h = (not-begun p L one ts is, two.sound ts y rest h.1)
    found ts y rest (Some z) is h = both-ways (is_some (p ts)) (ap (λ r. is_some r) is) h.0

exact-twice : {A B : Type 0} (p : Parse A) (q : A → Parse B) (L : Language A) (M : A → Language B) → Exact p L → ((a : A) → Exact (q a) (M a))
    → Exact (λ ts. with_rest (p ts) (λ a _. q a ts)) (λ ts y rest. (a : A) × (mid : List Token) × L ts a mid × M a ts y rest)
exact-twice p q L M one two = record {
  sound = λ ts y rest e. let s = split-rest (p ts) (λ a _. q a ts) (y, rest) e in
      (s.value, s.mid, one.sound ts s.value s.mid s.first, (two s.value).sound ts y rest s.second);
  complete = λ ts y rest (a, mid, l, m). ap (λ r. with_rest r (λ b _. q b ts)) (one.complete ts a mid l) ∙ (two a).complete ts y rest m;
}

-- ---- rows

pub test-less : (m n : ℕ) → nat_lt m n ≡ true → m < n
test-less m n e = grind (arith, nat_tests, e)

pub less-test : (m n : ℕ) → m < n → nat_lt m n ≡ true
less-test m n l = grind (arith, nat_tests, l)

kept-some : {A : Type 0} (b : Bool) (q z : A × List Token) → kept b q ≡ Some z → (b ≡ true) × (Some q ≡ Some z)
kept-some true q z e = (refl, e)
kept-some false q z e = none-is-some z e

pub exact-taking : {A : Type 0} (p : Parse A) (L : Language A) → Exact p L → Exact (λ ts. taking (p ts) ts) (Taking L)
exact-taking {A = A} p L one = record {
  sound = λ ts x rest e. found ts x rest (p ts) refl e;
  complete = λ ts x rest l. ap (λ r. taking r ts) (one.complete ts x rest l.0) ∙ ap (λ b. kept b (held x rest)) (less-test (length rest) (length ts) l.1);
}
  where
    found : (ts : List Token) (x : A) (rest : List Token) (r : Option (A × List Token)) → p ts ≡ r → taking r ts ≡ Some (x, rest) → Taking L ts x rest
    found ts x rest None is e = none-is-some (x, rest) e
    found ts x rest (Some q) is e =
        let k = kept-some (nat_lt (length q.1) (length ts)) q (x, rest) e in
        subst (λ (z : A × List Token). Taking L ts z.0 z.1) (some-value q (held x rest) k.1) (one.sound ts q.0 q.1 is, test-less (length q.1) (length ts) k.0)

pub exact-element : {A : Type 0} (ends : List Token → Bool) (p : Parse A) (L : Language A) → Exact p L → Exact (element ends p) (Element ends L)
exact-element ends p L one = record {
  sound = λ ts x rest e. chosen-cases (ends ts) (λ us. None) (λ us. taking (p us) us) ts (x, rest) e
      (λ t h. none-is-some (x, rest) h) (λ f h. (f, (exact-taking p L one).sound ts x rest h));
  complete = λ ts x rest l. ap (λ b. chosen b (λ us. None) (λ us. taking (p us) us) ts) l.0 ∙ (exact-taking p L one).complete ts x rest l.1;
}

module _ {A : Type 0} (p : A → Parse A) (M : A → Language A) (each : (a : A) → Exact (p a) (M a))
    (takes : (a : A) (ts : List Token) (b : A) (mid : List Token) → M a ts b mid → length mid < length ts) where
  ends-there : (a : A) (ts : List Token) (x : A) (rest : List Token) → (Begins (M a) ts → ⊥) → Some (held a ts) ≡ Some (held x rest) → AsOften M a ts x rest
  ends-there a ts x rest never e = subst (λ (z : A × List Token). AsOften M a ts z.0 z.1) (some-value (held a ts) (held x rest) e) (ended a ts, never)

  sound-row : (n : ℕ) (a : A) (ts : List Token) (x : A) (rest : List Token) → length ts ≤ n → row p n a ts ≡ Some (x, rest) → AsOften M a ts x rest
  sound-row zero a ts x rest enough e = ends-there a ts x rest (λ (b, mid, m). let less = takes a ts b mid m in absurd (omega (arith, enough, less))) e
  sound-row (suc n) a ts x rest enough e = by_turn (p a ts) refl e (sound-row n)
    where
      by_turn : (r : Option (A × List Token)) → p a ts ≡ r → turn r a ts (row p n) ≡ Some (x, rest)
          → ((b : A) (us : List Token) (y : A) (after : List Token) → length us ≤ n → row p n b us ≡ Some (y, after) → AsOften M b us y after) → AsOften M a ts x rest
      by_turn None is h ih = ends-there a ts x rest (not-begun (p a) (M a) (each a) ts is) h
      by_turn (Some q) is h ih =
          let m = (each a).sound ts q.0 q.1 is in
          let less : length q.1 < length ts = takes a ts q.0 q.1 m in
          let r = ih q.0 q.1 x rest (omega (arith, enough, less)) h in
          (again a q.0 x ts q.1 rest m r.0, r.1)

  complete-row : (a : A) (ts : List Token) (x : A) (rest : List Token) → Many M a ts x rest → (Begins (M x) rest → ⊥) → (n : ℕ) → length ts ≤ n
      → row p n a ts ≡ Some (x, rest)
  complete-row _ _ _ _ (ended a ts) never zero enough = refl
  complete-row _ _ _ _ (ended a ts) never (suc n) enough = ap (λ r. turn r a ts (row p n)) (not-read (p a) (M a) (each a) ts never)
  complete-row _ _ _ _ (again a b c ts mid rest m more) never zero enough = let less : length mid < length ts = takes a ts b mid m in absurd (omega (arith, enough, less))
  complete-row _ _ _ _ (again a b c ts mid rest m more) never (suc n) enough =
      let less : length mid < length ts = takes a ts b mid m in
      ap (λ r. turn r a ts (row p n)) ((each a).complete ts b mid m) ∙ complete-row b mid c rest more never n (omega (arith, enough, less))

  pub exact-row : (a : A) → Exact (λ ts. row p (length ts) a ts) (AsOften M a)
  exact-row a = record {
    sound = λ ts x rest e. sound-row (length ts) a ts x rest (omega arith) e;
    complete = λ ts x rest r. complete-row a ts x rest r.0 r.1 (length ts) (omega arith);
  }

-- a row always answers
pub total-row : {A : Type 0} (p : A → Parse A) (n : ℕ) (a : A) (ts : List Token) → (z : A × List Token) × (row p n a ts ≡ Some z)
total-row p zero a ts = ((a, ts), refl)
total-row {A = A} p (suc n) a ts = by_turn (p a ts) refl (total-row p n)
  where
    by_turn : (r : Option (A × List Token)) → p a ts ≡ r → ((b : A) (us : List Token) → (z : A × List Token) × (row p n b us ≡ Some z))
        → (z : A × List Token) × (row p (suc n) a ts ≡ Some z)
    by_turn None is ih = ((a, ts), ap (λ r. turn r a ts (row p n)) is)
    by_turn (Some q) is ih = let z = ih q.0 q.1 in (z.0, ap (λ r. turn r a ts (row p n)) is ∙ z.1)

pub exact-steps : {A : Type 0} (p : A → Parse A) (L : A → Language A) → ((a : A) → Exact (p a) (L a)) → (a : A)
    → Exact (λ ts. row (λ b us. taking (p b us) us) (length ts) a ts) (AsOften (λ b. Taking (L b)) a)
exact-steps p L each a = exact-row (λ b us. taking (p b us) us) (λ b. Taking (L b)) (λ b. exact-taking (p b) (L b) (each b)) (λ b ts c mid m. m.1) a

pub exact-elements : {A : Type 0} (ends : List Token → Bool) (p : A → Parse A) (L : A → Language A) → ((a : A) → Exact (p a) (L a)) → (a : A)
    → Exact (λ ts. row (λ b. element ends (p b)) (length ts) a ts) (AsOften (λ b. Element ends (L b)) a)
exact-elements ends p L each a = exact-row (λ b. element ends (p b)) (λ b. Element ends (L b)) (λ b. exact-element ends (p b) (L b) (each b)) (λ b ts c mid m. m.1.1) a

exact-until : {A : Type 0} (ends : List Token → Bool) (p : Parse A) (L : Language A) → Exact p L
    → Exact (λ ts. with_rest (p ts) (up_to ends)) (λ ts x rest. L ts x rest × (ends rest ≡ true))
exact-until {A = A} ends p L one = record {
  sound = λ ts x rest e. let s = split-rest (p ts) (up_to ends) (x, rest) e in found ts x rest s.value s.mid (one.sound ts s.value s.mid s.first) s.second;
  complete = λ ts x rest l. ap (λ r. with_rest r (up_to ends)) (one.complete ts x rest l.0) ∙ ap (λ b. chosen b (λ us. Some (held x us)) (λ us. None) rest) l.1;
}
  where
    found : (ts : List Token) (x : A) (rest : List Token) (a : A) (mid : List Token) → L ts a mid → up_to ends a mid ≡ Some (x, rest) → L ts x rest × (ends rest ≡ true)
    found ts x rest a mid l e = chosen-cases (ends mid) (λ us. Some (held a us)) (λ us. None) mid (x, rest) e
        (λ t h. subst (λ (z : A × List Token). L ts z.0 z.1 × (ends z.1 ≡ true)) (some-value (held a mid) (held x rest) h) (l, t)) (λ f h. none-is-some (x, rest) h)

-- ---- every rule

pub exact : {A : Type 0} (g : Rule A) → Exact (reading g) (spells g)
exact (empty x) = exact-empty x
exact (exactly p) = record { sound = λ ts x rest e. e; complete = λ ts x rest e. e }
exact (expression form names) = exact-form form names
exact (declarator names) = exact-longest behind_declarator (λ n. (readers n).declarator kind.Named names) (λ n. (inside n).declarator kind.Named names)
    (λ n. (all-good n).declarator kind.Named names)
exact (parameters names) = exact-closed _ _ (λ n. good-params_in_brackets (inside n) (readers n) (all-good n) names)
exact (then g h) = exact-then (reading g) (λ a. reading (h a)) (spells g) (λ a. spells (h a)) (exact g) (λ a. exact (h a))
exact (by test g h) = exact-by test (reading g) (reading h) (spells g) (spells h) (exact g) (exact h)
exact (rather g h) = exact-rather (reading g) (reading h) (spells g) (spells h) (exact g) (exact h)
exact (unless g h) = exact-unless (reading g) (reading h) (spells g) (spells h) (exact g) (exact h)
exact (often step a) = exact-steps (λ b. reading (step b)) (λ b. spells (step b)) (λ b. exact (step b)) a
exact (until ends names step a) = exact-until ends _ _ (exact-elements ends (λ b. reading (step b)) (λ b. spells (step b)) (λ b. exact (step b)) a)
exact (closed g) = exact g
exact (twice names step) = exact-twice (reading (step left_out)) (λ a. reading (step (late (names a)))) (spells (step left_out)) (λ a. spells (step (late (names a))))
    (exact (step left_out)) (λ a. exact (step (late (names a))))

-- by one rule tokens spell one value, and it has one end
pub one-value : {A : Type 0} (g : Rule A) (ts : List Token) (x y : A) (rest after : List Token) → spells g ts x rest → spells g ts y after
    → held x rest ≡ held y after
one-value g ts x y rest after l m = some-value (held x rest) (held y after) (sym ((exact g).complete ts x rest l) ∙ (exact g).complete ts y after m)
