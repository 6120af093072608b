-- What it means that a reading function reads the longest phrase of a language, and how that comes from parts.
use Rattle.std.proofs.Common.{◌≡◌, ℕ, ◌<◌, Bool, true, false, cond, ◌⊎◌, inl, inr, List, [], ◌∷◌, length, Option, Some, None, nat_eq, refl, sym, ◌∙◌, ap, subst}
use Rattle.std.proofs.lemmas.Bool.{eqb-true}
use Rattle.cf_tokens.specs.declared.token.Token.{Token}
use Rattle.cf_syntax.specs.Words.{code, front}
use Rattle.cf_syntax.specs.Parse.{Parse, pure, with_rest, then, word}
use Rattle.cf_syntax.specs.Language.{Language, Empty, Exactly, Then, Made, Word}

-- ---- sets of codes

abbrev pub among : List ℕ → ℕ → Bool
among [] n = false
among (k ∷ ks) n = cond (nat_eq n k) true (among ks n)

abbrev pub disjoint : List ℕ → List ℕ → Bool
disjoint [] js = true
disjoint (k ∷ ks) js = cond (among js k) false (disjoint ks js)

abbrev pub within : List ℕ → List ℕ → Bool
within [] js = true
within (k ∷ ks) js = cond (among js k) (within ks js) false

-- ---- the longest phrase

-- the reading went past the phrase, with a token behind it that goes on so
pub record Exceeds {A : Type 0} (goes : List ℕ) (r : Option (A × List Token)) (rest : List Token) : Type 0 where
  pub value : A
  pub after : List Token
  pub is : r ≡ Some (value, after)
  pub less : length after < length rest
  pub on : among goes (front rest) ≡ true

abbrev pub Meets : {A : Type 0} → List ℕ → Option (A × List Token) → A → List Token → Type 0
Meets goes r x rest = (r ≡ Some (x, rest)) ⊎ Exceeds goes r rest

-- what is read is a phrase, and each phrase is what is read or a shorter one
pub record Good {A : Type 0} (goes : List ℕ) (p : Parse A) (L : Language A) : Type 0 where
  pub sound : (ts : List Token) (x : A) (rest : List Token) → p ts ≡ Some (x, rest) → L ts x rest
  pub meets : (ts : List Token) (x : A) (rest : List Token) → L ts x rest → Meets goes (p ts) x rest

abbrev pub Starts : {A : Type 0} → List ℕ → Language A → Type 0
Starts {A = A} firsts L = (ts : List Token) (x : A) (rest : List Token) → L ts x rest → among firsts (front ts) ≡ true

abbrev pub Eats : {A : Type 0} → Language A → Type 0
Eats {A = A} L = (ts : List Token) (x : A) (rest : List Token) → L ts x rest → length rest < length ts

-- ---- tests

pub both-ways : {P : Type 0} (b : Bool) → b ≡ true → b ≡ false → P
both-ways b t f = absurd (true-is-not-false (sym t ∙ f))
  where
    true-is-not-false : true ≡ false → ⊥
    true-is-not-false e = cc

pub some-is-not-none : {A P : Type 0} (r : Option A) (x : A) → r ≡ None → r ≡ Some x → P
some-is-not-none r x n s = absurd (clash (sym n ∙ s))
  where
    clash : None ≡ Some x → ⊥
    clash e = cc

pub cond-cases : {A P : Type 0} (b : Bool) (x y z : A) → cond b x y ≡ z → (b ≡ true → x ≡ z → P) → (b ≡ false → y ≡ z → P) → P
cond-cases true x y z e left right = left refl e
cond-cases false x y z e left right = right refl e

among-at : (ks : List ℕ) (n k : ℕ) → nat_eq n k ≡ true → among ks n ≡ among ks k
among-at ks n k e = ap (among ks) (eqb-true n k e)

pub apart-at : (ks js : List ℕ) (n : ℕ) → disjoint ks js ≡ true → among ks n ≡ true → among js n ≡ false
apart-at [] js n d m = absurd (clash m)
  where
    clash : false ≡ true → ⊥
    clash e = cc
apart-at (k ∷ ks) js n d m = split (λ d2 m2. apart-at ks js n d2 m2) (among js k) refl
  where
    split : (disjoint ks js ≡ true → among ks n ≡ true → among js n ≡ false) → (b : Bool) → among js k ≡ b → among js n ≡ false
    split ih true e = absurd (clash (sym (ap (λ v. cond v false (disjoint ks js)) e) ∙ d))
      where
        clash : false ≡ true → ⊥
        clash q = cc
    split ih false e = cond-cases (nat_eq n k) true (among ks n) true m (λ same _. among-at js n k same ∙ e)
        (λ other more. ih (sym (ap (λ v. cond v false (disjoint ks js)) e) ∙ d) more)

pub within-at : (ks js : List ℕ) (n : ℕ) → within ks js ≡ true → among ks n ≡ true → among js n ≡ true
within-at [] js n d m = absurd (clash m)
  where
    clash : false ≡ true → ⊥
    clash e = cc
within-at (k ∷ ks) js n d m = split (λ d2 m2. within-at ks js n d2 m2) (among js k) refl
  where
    split : (within ks js ≡ true → among ks n ≡ true → among js n ≡ true) → (b : Bool) → among js k ≡ b → among js n ≡ true
    split ih false e = absurd (clash (sym (ap (λ v. cond v (within ks js) false) e) ∙ d))
      where
        clash : false ≡ true → ⊥
        clash q = cc
    split ih true e = cond-cases (nat_eq n k) true (among ks n) true m (λ same _. among-at js n k same ∙ e)
        (λ other more. ih (sym (ap (λ v. cond v (within ks js) false) e) ∙ d) more)

-- ---- parts

pub record Split {A B : Type 0} (r : Option (A × List Token)) (f : A → Parse B) (z : B × List Token) : Type 0 where
  pub value : A
  pub mid : List Token
  pub first : r ≡ Some (value, mid)
  pub second : f value mid ≡ Some z

pub split-rest : {A B : Type 0} (r : Option (A × List Token)) (f : A → Parse B) (z : B × List Token) → with_rest r f ≡ Some z → Split r f z
split-rest None f z e = absurd (clash e)
  where
    clash : None ≡ Some z → ⊥
    clash q = cc
split-rest (Some q) f z e = record { value = q.0; mid = q.1; first = refl; second = e }

pub good-wider : {A : Type 0} (ks js : List ℕ) (p : Parse A) (L : Language A) → within ks js ≡ true → Good ks p L → Good js p L
good-wider {A = A} ks js p L w g = record { sound = g.sound; meets = λ ts x rest l. wider (p ts) x rest (g.meets ts x rest l) }
  where
    wider : (r : Option (A × List Token)) (x : A) (rest : List Token) → Meets ks r x rest → Meets js r x rest
    wider r x rest (inl e) = inl e
    wider r x rest (inr m) = inr (record { value = m.value; after = m.after; is = m.is; less = m.less; on = within-at ks js (front rest) w m.on })

pub good-empty : {A : Type 0} (x : A) → Good [] (pure x) (Empty x)
good-empty {A = A} x = record {
  sound = λ ts y rest e. (ap (λ o. value_or x o) (sym e), ap (λ o. rest_or ts o) (sym e));
  meets = λ ts y rest l. inl (ap (λ z. Some (z, ts)) (sym l.0) ∙ ap (λ z. Some (y, z)) (sym l.1));
}
  where
    value_or : A → Option (A × List Token) → A
    value_or d (Some q) = q.0
    value_or d None = d

    rest_or : List Token → Option (A × List Token) → List Token
    rest_or d (Some q) = q.1
    rest_or d None = d

pub good-exactly : {A : Type 0} (p : Parse A) → Good [] p (Exactly p)
good-exactly p = record { sound = λ ts x rest e. e; meets = λ ts x rest e. inl e }

pub good-then : {A B : Type 0} (g1 g2 : List ℕ) (p : Parse A) (q : A → Parse B) (L : Language A) (M : A → Language B)
    → Good g1 p L → ((a : A) → Good g2 (q a) (M a))
    → ((a : A) (ts : List Token) (b : B) (rest : List Token) → M a ts b rest → among g1 (front ts) ≡ false)
    → Good g2 (then p q) (Then L M)
good-then {A = A} {B = B} g1 g2 p q L M first second apart = record {
  sound = λ ts b rest e. let s = split-rest (p ts) q (b, rest) e in
      (s.value, s.mid, first.sound ts s.value s.mid s.first, (second s.value).sound s.mid b rest s.second);
  meets = λ ts b rest (a, mid, l, m). go ts b rest a mid m (first.meets ts a mid l);
}
  where
    go : (ts : List Token) (b : B) (rest : List Token) (a : A) (mid : List Token) → M a mid b rest → Meets g1 (p ts) a mid
        → Meets g2 (with_rest (p ts) q) b rest
    go ts b rest a mid m (inl e) = subst (λ r. Meets g2 (with_rest r q) b rest) (sym e) ((second a).meets mid b rest m)
    go ts b rest a mid m (inr x) = both-ways (among g1 (front mid)) x.on (apart a mid b rest m)

pub good-made : {A B : Type 0} (g : List ℕ) (f : A → B) (p : Parse A) (L : Language A) → Good g p L
    → Good g (then p (λ a. pure (f a))) (Made f L)
good-made {A = A} {B = B} g f p L first = record {
  sound = λ ts b rest e. let s = split-rest (p ts) (λ a. pure (f a)) (b, rest) e in (
    s.value,
    subst (λ r. L ts s.value r) (pair-second (f s.value, s.mid) (b, rest) s.second) (first.sound ts s.value s.mid s.first),
    sym (pair-first (f s.value, s.mid) (b, rest) s.second),
  );
  meets = λ ts b rest (a, l, e). subst (λ v. Meets g (with_rest (p ts) (λ a. pure (f a))) v rest) (sym e) (go ts rest a (first.meets ts a rest l));
}
  where
    pair-first : (u v : B × List Token) → Some u ≡ Some v → u.0 ≡ v.0
    pair-first u v e = ap (λ o. first_of_some u.0 o) e
      where
        first_of_some : B → Option (B × List Token) → B
        first_of_some d (Some w) = w.0
        first_of_some d None = d

    pair-second : (u v : B × List Token) → Some u ≡ Some v → u.1 ≡ v.1
    pair-second u v e = ap (λ o. second_of_some u.1 o) e
      where
        second_of_some : List Token → Option (B × List Token) → List Token
        second_of_some d (Some w) = w.1
        second_of_some d None = d

    go : (ts rest : List Token) (a : A) → Meets g (p ts) a rest → Meets g (with_rest (p ts) (λ b. pure (f b))) (f a) rest
    go ts rest a (inl e) = inl (ap (λ r. with_rest r (λ b. pure (f b))) e)
    go ts rest a (inr x) = inr (record { value = f x.value; after = x.after; is = ap (λ r. with_rest r (λ b. pure (f b))) x.is; less = x.less; on = x.on })

pub some-value : {A : Type 0} (u v : A) → Some u ≡ Some v → u ≡ v
some-value {A = A} u v e = ap (λ o. of_some u o) e
  where
    of_some : A → Option A → A
    of_some d (Some w) = w
    of_some d None = d

abbrev placed : ℕ → List Token → ℕ × List Token
placed x rest = (x, rest)

pub starts-word : (n : ℕ) → Starts (n ∷ []) (Word n)
starts-word n ts x rest e = go ts e
  where
    go : (ts : List Token) → word n ts ≡ Some (x, rest) → among (n ∷ []) (front ts) ≡ true
    go [] q = some-is-not-none None (placed x rest) refl q
    go (t ∷ us) q = cond-cases (nat_eq (code t.word) n) (Some (t.at, us)) None (Some (placed x rest)) q
        (λ same _. ap (λ b. cond b true false) same) (λ _ h. some-is-not-none None (placed x rest) refl h)
