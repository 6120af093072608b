-- What may follow a phrase any number of times, and a phrase with such a tail.
use Rattle.std.proofs.Common.{◌≡◌, ℕ, zero, suc, ◌<◌, ◌≤◌, true, ◌⊎◌, inl, inr, List, ◌++◌, length, Option, Some, None, refl, sym, ◌∙◌, ap, subst, arith}
use Rattle.cf_tokens.specs.declared.token.Token.{Token}
use Rattle.cf_syntax.specs.Words.{front}
use Rattle.cf_syntax.specs.Parse.{Parse, with_rest, then, turn, loop, repeat}
use Rattle.cf_syntax.specs.Language.{Language, Then, Many, ended, again}
use Rattle.cf_syntax.proofs.Good.{among, disjoint, Exceeds, Meets, Good, Starts, Eats, both-ways, apart-at, within-at, within, good-wider, split-rest, some-value}
use Rattle.cf_syntax.proofs.Tails.{Tail, among-left, among-right}

module _ {A : Type 0} (firsts goes : List ℕ) (step : A → Parse A) (M : A → Language A)
    (each : (a : A) → Good goes (step a) (M a)) (starts : (a : A) → Starts firsts (M a)) (eats : (a : A) → Eats (M a))
    (apart : disjoint firsts goes ≡ true) where
  sound_loop : (n : ℕ) (a : A) (ts : List Token) (x : A) (rest : List Token) → loop step n a ts ≡ Some (x, rest) → Many M a ts x rest
  sound_loop zero a ts x rest e = subst (λ (z : A × List Token). Many M a ts z.0 z.1) (some-value (a, ts) (x, rest) e) (ended a ts)
  sound_loop (suc n) a ts x rest e = turned (step a ts) refl e (sound_loop n)
    where
      turned : (r : Option (A × List Token)) → step a ts ≡ r → turn r a ts (loop step n) ≡ Some (x, rest)
          → ((b : A) (us : List Token) (y : A) (after : List Token) → loop step n b us ≡ Some (y, after) → Many M b us y after) → Many M a ts x rest
      turned None is h ih = subst (λ (z : A × List Token). Many M a ts z.0 z.1) (some-value (a, ts) (x, rest) h) (ended a ts)
      turned (Some q) is h ih = again a q.0 x ts q.1 rest ((each a).sound ts q.0 q.1 is) (ih q.0 q.1 x rest h)

  -- the loop always answers: with nothing read, or with less left and a first token of what may follow
  pub record Ends (a : A) (ts : List Token) (r : Option (A × List Token)) : Type 0 where
    pub value : A
    pub after : List Token
    pub is : r ≡ Some (value, after)
    pub how : (r ≡ Some (a, ts)) ⊎ ((length after < length ts) × (among firsts (front ts) ≡ true))

  shorter : (a : A) (ts : List Token) (r : Option (A × List Token)) (e : Ends a ts r) → length e.after ≤ length ts
  shorter a ts r e = by_how e.how
    where
      by_how : (r ≡ Some (a, ts)) ⊎ ((length e.after < length ts) × (among firsts (front ts) ≡ true)) → length e.after ≤ length ts
      by_how (inl same) = let at : length e.after ≡ length ts = ap (λ (z : A × List Token). length z.1) (some-value (e.value, e.after) (a, ts) (sym e.is ∙ same)) in omega arith
      by_how (inr less) = omega arith

  ends_loop : (n : ℕ) (a : A) (ts : List Token) → Ends a ts (loop step n a ts)
  ends_loop zero a ts = record { value = a; after = ts; is = refl; how = inl refl }
  ends_loop (suc n) a ts = turned (step a ts) refl (ends_loop n)
    where
      turned : (r : Option (A × List Token)) → step a ts ≡ r → ((b : A) (us : List Token) → Ends b us (loop step n b us)) → Ends a ts (turn (step a ts) a ts (loop step n))
      turned None is ih = record { value = a; after = ts; is = ap (λ r. turn r a ts (loop step n)) is; how = inl (ap (λ r. turn r a ts (loop step n)) is) }
      turned (Some q) is ih =
          let there = (each a).sound ts q.0 q.1 is in
          let less : length q.1 < length ts = eats a ts q.0 q.1 there in
          let inner = ih q.0 q.1 in
          let back : length inner.after ≤ length q.1 = shorter q.0 q.1 _ inner in
          record {
            value = inner.value;
            after = inner.after;
            is = ap (λ r. turn r a ts (loop step n)) is ∙ inner.is;
            how = inr (omega arith, starts a ts q.0 q.1 there);
          }

  begins : (a : A) (ts : List Token) (b : A) (rest : List Token) → Many M a ts b rest → ((b ≡ a) × (rest ≡ ts)) ⊎ (among firsts (front ts) ≡ true)
  begins _ _ _ _ (ended a ts) = inl (refl, refl)
  begins _ _ _ _ (again a b c ts mid rest m more) = inr (starts a ts b mid m)

  meets_loop : (a : A) (ts : List Token) (x : A) (rest : List Token) → Many M a ts x rest → (n : ℕ) → length ts ≤ n
      → Meets (firsts ++ goes) (loop step n a ts) x rest
  meets_loop _ _ _ _ (ended a ts) n enough = by_end (ends_loop n a ts)
    where
      by_end : Ends a ts (loop step n a ts) → Meets (firsts ++ goes) (loop step n a ts) a ts
      by_end e = by_how e.how
        where
          by_how : (loop step n a ts ≡ Some (a, ts)) ⊎ ((length e.after < length ts) × (among firsts (front ts) ≡ true)) → Meets (firsts ++ goes) (loop step n a ts) a ts
          by_how (inl same) = inl same
          by_how (inr less) = inr (record { value = e.value; after = e.after; is = e.is; less = less.0; on = among-left firsts goes (front ts) less.1 })
  meets_loop _ _ _ _ (again a b c ts mid rest m more) zero enough =
      let less : length mid < length ts = eats a ts b mid m in absurd (omega arith)
  meets_loop _ _ _ _ (again a b c ts mid rest m more) (suc n) enough =
      let less : length mid < length ts = eats a ts b mid m in
      stepped ((each a).meets ts b mid m) (meets_loop b mid c rest more n (omega arith))
    where
      past : (y : A) (after : List Token) → step a ts ≡ Some (y, after) → length after < length mid → among goes (front mid) ≡ true
          → ((c ≡ b) × (rest ≡ mid)) ⊎ (among firsts (front mid) ≡ true) → Meets (firsts ++ goes) (loop step (suc n) a ts) c rest
      past y after is shorter_there on (inl (_, same)) =
          let inner = ends_loop n y after in
          let back : length inner.after ≤ length after = shorter y after _ inner in
          let at : length rest ≡ length mid = ap length same in
          inr (record {
            value = inner.value;
            after = inner.after;
            is = ap (λ r. turn r a ts (loop step n)) is ∙ inner.is;
            less = omega arith;
            on = among-right firsts goes (front rest) (ap (λ z. among goes (front z)) same ∙ on);
          })
      past y after is shorter_there on (inr first) = both-ways (among goes (front mid)) on (apart-at firsts goes (front mid) apart first)

      stepped : Meets goes (step a ts) b mid → Meets (firsts ++ goes) (loop step n b mid) c rest → Meets (firsts ++ goes) (loop step (suc n) a ts) c rest
      stepped (inl e) ih = subst (λ r. Meets (firsts ++ goes) (turn r a ts (loop step n)) c rest) (sym e) ih
      stepped (inr y) ih = past y.value y.after y.is y.less y.on (begins b mid c rest more)

  pub tail-repeat : Tail (λ a. a) firsts goes (repeat step) (Many M)
  tail-repeat = record {
    good = λ a. record { sound = λ ts x rest e. sound_loop (length ts) a ts x rest e; meets = λ ts x rest l. meets_loop a ts x rest l (length ts) (omega arith) };
    total = λ a ts. let e = ends_loop (length ts) a ts in ((e.value, e.after), e.is, shorter a ts _ e);
    starts = begins;
  }

-- a phrase with such a tail
pub good-tail : {C A : Type 0} (base : C → A) (g firsts goes : List ℕ) (p : Parse C) (L : Language C) (q : C → Parse A) (M : C → Language A)
    → Good g p L → Tail base firsts goes q M → disjoint firsts g ≡ true → Good (g ++ (firsts ++ goes)) (then p q) (Then L M)
good-tail {C = C} {A = A} base g firsts goes p L q M head tail apart = record {
  sound = λ ts b rest e. let s = split-rest (p ts) q (b, rest) e in
      (s.value, s.mid, head.sound ts s.value s.mid s.first, (tail.good s.value).sound s.mid b rest s.second);
  meets = λ ts b rest (a, mid, l, m). go ts b rest a mid m (head.meets ts a mid l);
}
  where
    raised : (r : Option (A × List Token)) (b : A) (rest : List Token) → Meets (firsts ++ goes) r b rest → Meets (g ++ (firsts ++ goes)) r b rest
    raised r b rest (inl e) = inl e
    raised r b rest (inr y) = inr (record { value = y.value; after = y.after; is = y.is; less = y.less; on = among-right g (firsts ++ goes) (front rest) y.on })

    past : (ts : List Token) (b : A) (rest : List Token) (a : C) (mid : List Token) → Exceeds g (p ts) mid → ((b ≡ base a) × (rest ≡ mid)) ⊎ (among firsts (front mid) ≡ true)
        → Meets (g ++ (firsts ++ goes)) (with_rest (p ts) q) b rest
    past ts b rest a mid x (inl (_, same)) =
        let t = tail.total x.value x.after in
        let at : length rest ≡ length mid = ap length same in
        let back : length t.0.1 ≤ length x.after = t.2 in
        let less : length x.after < length mid = x.less in
        inr (record {
          value = t.0.0;
          after = t.0.1;
          is = ap (λ r. with_rest r q) x.is ∙ t.1;
          less = omega arith;
          on = among-left g (firsts ++ goes) (front rest) (ap (λ z. among g (front z)) same ∙ x.on);
        })
    past ts b rest a mid x (inr first) = both-ways (among g (front mid)) x.on (apart-at firsts g (front mid) apart first)

    go : (ts : List Token) (b : A) (rest : List Token) (a : C) (mid : List Token) → M a mid b rest → Meets g (p ts) a mid
        → Meets (g ++ (firsts ++ goes)) (with_rest (p ts) q) b rest
    go ts b rest a mid m (inl e) = subst (λ r. Meets (g ++ (firsts ++ goes)) (with_rest r q) b rest) (sym e) (raised (q a mid) b rest ((tail.good a).meets mid b rest m))
    go ts b rest a mid m (inr x) = past ts b rest a mid x (tail.starts a mid b rest m)

-- one tail behind another
pub tail-then : {C A B : Type 0} (base1 : C → A) (base2 : A → B) (f1 g1 f2 g2 firsts goes : List ℕ) (q1 : C → Parse A) (M1 : C → Language A) (q2 : A → Parse B) (M2 : A → Language B)
    → Tail base1 f1 g1 q1 M1 → Tail base2 f2 g2 q2 M2 → disjoint f2 (f1 ++ g1) ≡ true
    → within ((f1 ++ g1) ++ (f2 ++ g2)) (firsts ++ goes) ≡ true → within f1 firsts ≡ true → within f2 firsts ≡ true
    → Tail (λ c. base2 (base1 c)) firsts goes (λ c. then (q1 c) q2) (λ c. Then (M1 c) M2)
tail-then {C = C} {A = A} {B = B} base1 base2 f1 g1 f2 g2 firsts goes q1 M1 q2 M2 one two apart w w1 w2 = record {
  good = λ c. good-wider ((f1 ++ g1) ++ (f2 ++ g2)) (firsts ++ goes) _ _ w (good-tail base2 (f1 ++ g1) f2 g2 (q1 c) (M1 c) q2 M2 (one.good c) two apart);
  total = λ c ts. let s = one.total c ts in let t = two.total s.0.0 s.0.1 in let less = s.2 in let more = t.2 in
      (t.0, ap (λ r. with_rest r q2) s.1 ∙ t.1, omega (arith, less, more));
  starts = λ c ts b rest (a, mid, m1, m2). go c ts b rest a mid (one.starts c ts a mid m1) (two.starts a mid b rest m2);
}
  where
    go : (c : C) (ts : List Token) (b : B) (rest : List Token) (a : A) (mid : List Token) → ((a ≡ base1 c) × (mid ≡ ts)) ⊎ (among f1 (front ts) ≡ true)
        → ((b ≡ base2 a) × (rest ≡ mid)) ⊎ (among f2 (front mid) ≡ true) → ((b ≡ base2 (base1 c)) × (rest ≡ ts)) ⊎ (among firsts (front ts) ≡ true)
    go c ts b rest a mid (inr first) later = inr (within-at f1 firsts (front ts) w1 first)
    go c ts b rest a mid (inl z) (inl y) = inl (y.0 ∙ ap base2 z.0, y.1 ∙ z.1)
    go c ts b rest a mid (inl z) (inr first) = inr (within-at f2 firsts (front ts) w2 (ap (λ us. among f2 (front us)) (sym z.1) ∙ first))

-- one language for another
pub good-same : {A : Type 0} (g : List ℕ) (p : Parse A) (L M : Language A)
    → ((ts : List Token) (x : A) (rest : List Token) → L ts x rest → M ts x rest) → ((ts : List Token) (x : A) (rest : List Token) → M ts x rest → L ts x rest)
    → Good g p L → Good g p M
good-same g p L M to from good = record { sound = λ ts x rest e. to ts x rest (good.sound ts x rest e); meets = λ ts x rest m. good.meets ts x rest (from ts x rest m) }
