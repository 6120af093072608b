-- What may follow a phrase, once or any number of times, and choices by a test of the tokens.
use Rattle.std.proofs.Common.{◌≡◌, ℕ, ◌<◌, ◌≤◌, Bool, true, false, cond, ◌⊎◌, inl, inr, List, [], ◌∷◌, ◌++◌, length, Option, Some, None, nat_eq, refl, sym, ◌∙◌, ap, subst, arith}
use Rattle.cf_tokens.specs.declared.token.Token.{Token}
use Rattle.cf_syntax.specs.Words.{front}
use Rattle.cf_syntax.specs.Parse.{Parse, pure, with_rest, none, then, choose, or_stop, option, word}
use Rattle.cf_syntax.specs.Language.{Language, Then, Either, Made, Where, Maybe, By, Never, Word}
use Rattle.cf_syntax.proofs.Good.{among, disjoint, within, Meets, Good, Starts, Eats, both-ways, cond-cases, apart-at, within-at, some-is-not-none, some-value, good-wider, good-then, good-made, good-exactly, starts-word}

-- ---- choices

pub good-choose : {A : Type 0} (g : List ℕ) (test : List Token → Bool) (p q : Parse A) (L M : Language A) → Good g p L → Good g q M
    → ((ts : List Token) (x : A) (rest : List Token) → L ts x rest → test ts ≡ true)
    → ((ts : List Token) (x : A) (rest : List Token) → M ts x rest → test ts ≡ false)
    → Good g (choose test p q) (Either L M)
good-choose {A = A} g test p q L M one two left right = record {
  sound = λ ts x rest e. cond-cases (test ts) (p ts) (q ts) (Some (x, rest)) e (λ _ h. inl (one.sound ts x rest h)) (λ _ h. inr (two.sound ts x rest h));
  meets = λ ts x rest l. go ts x rest l;
}
  where
    go : (ts : List Token) (x : A) (rest : List Token) → Either L M ts x rest → Meets g (cond (test ts) (p ts) (q ts)) x rest
    go ts x rest (inl l) = subst (λ b. Meets g (cond b (p ts) (q ts)) x rest) (sym (left ts x rest l)) (one.meets ts x rest l)
    go ts x rest (inr m) = subst (λ b. Meets g (cond b (p ts) (q ts)) x rest) (sym (right ts x rest m)) (two.meets ts x rest m)

-- where the test decides what one of the two is only for
pub good-where : {A : Type 0} (g : List ℕ) (P : List Token → Type 0) (test : List Token → Bool) (p q : Parse A) (L M : Language A) → Good g p L → Good g q M
    → ((ts : List Token) → test ts ≡ true → P ts) → ((ts : List Token) → P ts → test ts ≡ true)
    → Good g (choose test p q) (Either (Where P L) (Where (λ ts. P ts → ⊥) M))
good-where {A = A} g P test p q L M one two holds decides = record {
  sound = λ ts x rest e. cond-cases (test ts) (p ts) (q ts) (Some (x, rest)) e
      (λ t h. inl (holds ts t, one.sound ts x rest h)) (λ f h. inr ((λ y. both-ways (test ts) (decides ts y) f), two.sound ts x rest h));
  meets = λ ts x rest l. go ts x rest l;
}
  where
    never : (ts : List Token) → (P ts → ⊥) → (b : Bool) → test ts ≡ b → test ts ≡ false
    never ts not_there true e = absurd (not_there (holds ts e))
    never ts not_there false e = e

    go : (ts : List Token) (x : A) (rest : List Token) → Either (Where P L) (Where (λ ts. P ts → ⊥) M) ts x rest → Meets g (cond (test ts) (p ts) (q ts)) x rest
    go ts x rest (inl l) = subst (λ b. Meets g (cond b (p ts) (q ts)) x rest) (sym (decides ts l.0)) (one.meets ts x rest l.1)
    go ts x rest (inr m) = subst (λ b. Meets g (cond b (p ts) (q ts)) x rest) (sym (never ts m.0 (test ts) refl)) (two.meets ts x rest m.1)

-- the same at one side alone
pub good-only : {A : Type 0} (g : List ℕ) (P : List Token → Type 0) (test : List Token → Bool) (q : Parse A) (M : Language A) → Good g q M
    → ((ts : List Token) → test ts ≡ true → P ts) → ((ts : List Token) → P ts → test ts ≡ true)
    → Good g (choose test (λ ts. None) q) (Where (λ ts. P ts → ⊥) M)
good-only {A = A} g P test q M two holds decides = record {
  sound = λ ts x rest e. cond-cases (test ts) None (q ts) (Some (x, rest)) e
      (λ t h. some-is-not-none None (x, rest) refl h) (λ f h. ((λ y. both-ways (test ts) (decides ts y) f), two.sound ts x rest h));
  meets = λ ts x rest m. subst (λ b. Meets g (cond b None (q ts)) x rest) (sym (never ts m.0 (test ts) refl)) (two.meets ts x rest m.1);
}
  where
    never : (ts : List Token) → (P ts → ⊥) → (b : Bool) → test ts ≡ b → test ts ≡ false
    never ts not_there true e = absurd (not_there (holds ts e))
    never ts not_there false e = e

abbrev pair_of : {A : Type 0} → A → List Token → A × List Token
pair_of x rest = (x, rest)

-- ---- tails

-- what may follow a value: the reading always answers, and a phrase has no tokens and is `base`, or begins so
pub record Tail {C A : Type 0} (base : C → A) (firsts goes : List ℕ) (q : C → Parse A) (M : C → Language A) : Type 0 where
  pub good : (c : C) → Good (firsts ++ goes) (q c) (M c)
  pub total : (c : C) (ts : List Token) → (z : A × List Token) × (q c ts ≡ Some z) × (length z.1 ≤ length ts)
  pub starts : (c : C) (ts : List Token) (b : A) (rest : List Token) → M c ts b rest → ((b ≡ base c) × (rest ≡ ts)) ⊎ (among firsts (front ts) ≡ true)

pub among-left : (ks js : List ℕ) (n : ℕ) → among ks n ≡ true → among (ks ++ js) n ≡ true
among-left [] js n e = absurd (clash e)
  where
    clash : false ≡ true → ⊥
    clash q = cc
among-left (k ∷ ks) js n e = cond-cases (nat_eq n k) true (among ks n) true e
    (λ t _. ap (λ b. cond b true (among (ks ++ js) n)) t) (λ f h. ap (λ b. cond b true (among (ks ++ js) n)) f ∙ among-left ks js n h)

pub among-right : (ks js : List ℕ) (n : ℕ) → among js n ≡ true → among (ks ++ js) n ≡ true
among-right [] js n e = e
among-right (k ∷ ks) js n e = split (nat_eq n k) refl (among-right ks js n e)
  where
    split : (b : Bool) → nat_eq n k ≡ b → among (ks ++ js) n ≡ true → cond (nat_eq n k) true (among (ks ++ js) n) ≡ true
    split true t ih = ap (λ b. cond b true (among (ks ++ js) n)) t
    split false f ih = ap (λ b. cond b true (among (ks ++ js) n)) f ∙ ih

pub tail-option : {A : Type 0} (firsts goes : List ℕ) (step : A → Parse A) (M : A → Language A)
    → ((a : A) → Good goes (step a) (M a)) → ((a : A) → Starts firsts (M a)) → ((a : A) → Eats (M a))
    → Tail (λ a. a) firsts goes (option step) (Maybe M)
tail-option {A = A} firsts goes step M each starts eats = record {
  good = λ a. record {
    sound = λ ts x rest e. sound a ts x rest (step a ts) refl e;
    meets = λ ts x rest l. meets a ts x rest l;
  };
  total = λ a ts. total a ts (step a ts) refl;
  starts = λ a ts b rest m. begins a ts b rest m;
}
  where
    sound : (a : A) (ts : List Token) (x : A) (rest : List Token) (r : Option (A × List Token)) → step a ts ≡ r
        → or_stop a ts r ≡ Some (x, rest) → Maybe M a ts x rest
    sound a ts x rest None is e = inl (ap (λ (z : A × List Token). z.0) (sym (some-value (a, ts) (x, rest) e)), ap (λ (z : A × List Token). z.1) (sym (some-value (a, ts) (x, rest) e)))
    sound a ts x rest (Some q) is e = inr ((each a).sound ts x rest (is ∙ e))

    total : (a : A) (ts : List Token) (r : Option (A × List Token)) → step a ts ≡ r → (z : A × List Token) × (or_stop a ts (step a ts) ≡ Some z) × (length z.1 ≤ length ts)
    total a ts None is = ((a, ts), ap (or_stop a ts) is, omega arith)
    total a ts (Some q) is = let shorter : length q.1 < length ts = eats a ts q.0 q.1 ((each a).sound ts q.0 q.1 is) in (q, ap (or_stop a ts) is, omega arith)

    begins : (a : A) (ts : List Token) (b : A) (rest : List Token) → Maybe M a ts b rest → ((b ≡ a) × (rest ≡ ts)) ⊎ (among firsts (front ts) ≡ true)
    begins a ts b rest (inl e) = inl e
    begins a ts b rest (inr m) = inr (starts a ts b rest m)

    meets : (a : A) (ts : List Token) (x : A) (rest : List Token) → Maybe M a ts x rest → Meets (firsts ++ goes) (or_stop a ts (step a ts)) x rest
    meets a ts x rest (inl e) = subst (λ z. Meets (firsts ++ goes) (or_stop a ts (step a ts)) z rest) (sym e.0)
        (subst (λ z. Meets (firsts ++ goes) (or_stop a ts (step a ts)) a z) (sym e.1) (stays (step a ts) refl))
      where
        stays : (r : Option (A × List Token)) → step a ts ≡ r → Meets (firsts ++ goes) (or_stop a ts (step a ts)) a ts
        stays None is = inl (ap (or_stop a ts) is)
        stays (Some q) is = let there = (each a).sound ts q.0 q.1 is in
            inr (record { value = q.0; after = q.1; is = ap (or_stop a ts) is; less = eats a ts q.0 q.1 there; on = among-left firsts goes (front ts) (starts a ts q.0 q.1 there) })
    meets a ts x rest (inr m) = lifted ((each a).meets ts x rest m)
      where
        lifted : Meets goes (step a ts) x rest → Meets (firsts ++ goes) (or_stop a ts (step a ts)) x rest
        lifted (inl e) = inl (ap (or_stop a ts) e)
        lifted (inr y) = inr (record { value = y.value; after = y.after; is = ap (or_stop a ts) y.is; less = y.less; on = among-right firsts goes (front rest) y.on })

pub tail-made : {C A B : Type 0} (base : A → A) (firsts goes : List ℕ) (init : C → A) (f : C → A → B) (q : A → Parse A) (M : A → Language A)
    → Tail base firsts goes q M
    → Tail (λ c. f c (base (init c))) firsts goes (λ c. then (q (init c)) (λ a. pure (f c a))) (λ c. Made (f c) (M (init c)))
tail-made {C = C} {A = A} {B = B} base firsts goes init f q M tail = record {
  good = λ c. good-made (firsts ++ goes) (f c) (q (init c)) (M (init c)) (tail.good (init c));
  total = λ c ts. let t = tail.total (init c) ts in ((f c t.0.0, t.0.1), ap (λ r. with_rest r (λ a. pure (f c a))) t.1, t.2);
  starts = λ c ts b rest (a, m, e). go c ts b rest a e (tail.starts (init c) ts a rest m);
}
  where
    go : (c : C) (ts : List Token) (b : B) (rest : List Token) (a : A) → b ≡ f c a → ((a ≡ base (init c)) × (rest ≡ ts)) ⊎ (among firsts (front ts) ≡ true)
        → ((b ≡ f c (base (init c))) × (rest ≡ ts)) ⊎ (among firsts (front ts) ≡ true)
    go c ts b rest a e (inl z) = inl (e ∙ ap (f c) z.0, z.1)
    go c ts b rest a e (inr first) = inr first

-- one tail behind another
pub tail-wider : {C A : Type 0} (base : C → A) (fs gs firsts goes : List ℕ) (q : C → Parse A) (M : C → Language A)
    → within fs firsts ≡ true → within (fs ++ gs) (firsts ++ goes) ≡ true → Tail base fs gs q M → Tail base firsts goes q M
tail-wider {C = C} {A = A} base fs gs firsts goes q M w v tail = record {
  good = λ c. good-wider (fs ++ gs) (firsts ++ goes) (q c) (M c) v (tail.good c);
  total = tail.total;
  starts = λ c ts b rest m. go c ts b rest (tail.starts c ts b rest m);
}
  where
    go : (c : C) (ts : List Token) (b : A) (rest : List Token) → ((b ≡ base c) × (rest ≡ ts)) ⊎ (among fs (front ts) ≡ true)
        → ((b ≡ base c) × (rest ≡ ts)) ⊎ (among firsts (front ts) ≡ true)
    go c ts b rest (inl z) = inl z
    go c ts b rest (inr first) = inr (within-at fs firsts (front ts) w first)

pub good-by : {A : Type 0} (g : List ℕ) (test : List Token → Bool) (p q : Parse A) (L M : Language A) → Good g p L → Good g q M → Good g (choose test p q) (By test L M)
good-by {A = A} g test p q L M one two = record {
  sound = λ ts x rest e. cond-cases (test ts) (p ts) (q ts) (Some (x, rest)) e (λ t h. inl (t, one.sound ts x rest h)) (λ f h. inr (f, two.sound ts x rest h));
  meets = λ ts x rest l. go ts x rest l;
}
  where
    go : (ts : List Token) (x : A) (rest : List Token) → By test L M ts x rest → Meets g (cond (test ts) (p ts) (q ts)) x rest
    go ts x rest (inl l) = subst (λ b. Meets g (cond b (p ts) (q ts)) x rest) (sym l.0) (one.meets ts x rest l.1)
    go ts x rest (inr m) = subst (λ b. Meets g (cond b (p ts) (q ts)) x rest) (sym m.0) (two.meets ts x rest m.1)

pub good-never : {A : Type 0} → Good {A = A} [] none Never
good-never {A = A} = record { sound = λ ts x rest e. absurd (clash x rest e); meets = λ ts x rest l. absurd l }
  where
    clash : (x : A) (rest : List Token) → None ≡ Some (pair_of x rest) → ⊥
    clash x rest e = cc

-- a phrase with a closing word
pub good-close : {A B : Type 0} (g : List ℕ) (n : ℕ) (f : A → B) (p : Parse A) (L : Language A) → Good g p L → disjoint (n ∷ []) g ≡ true
    → Good [] (then p (λ a. then (word n) (λ _. pure (f a)))) (Then L (λ a. Made (λ _. f a) (Word n)))
good-close g n f p L good apart = good-then g [] p (λ a. then (word n) (λ _. pure (f a))) L (λ a. Made (λ _. f a) (Word n)) good
    (λ a. good-made [] (λ _. f a) (word n) (Word n) (good-exactly (word n)))
    (λ a ts b rest m. apart-at (n ∷ []) g (front ts) apart (starts-word n ts m.0 rest m.1))
