-- Where a rule is stuck is what `stuck_at` tells, and nothing else.
use Rattle.std.proofs.Common.{◌≡◌, Bool, true, false, ◌⊎◌, inl, inr, List, length, Option, Some, None, refl, sym, ◌∙◌, ap}
use Rattle.cf_tokens.specs.declared.token.Token.{Token}
use Rattle.cf_syntax.specs.NamesData.{Names}
use Rattle.cf_syntax.specs.Parse.{Parse}
use Rattle.cf_syntax.specs.Words.{place}
use Rattle.cf_syntax.specs.Language.{Language}
use Rattle.cf_syntax.proofs.Good.{some-is-not-none, some-value}
use Rattle.cf_unit.specs.Rule.{left_out, late, Rule, empty, exactly, expression, declarator, parameters, then, by, rather, unless, often, until, closed, twice, Begins, Taking, Element, AsOften, spells}
use Rattle.cf_unit.specs.Read.{taking, element, row, reading, or_spot, spot_if, spot_by, with_spot, stuck_at}
use Rattle.cf_unit.specs.Stuck.{Spot, Spotted, Nowhere, Fails, Unended, Stuck}
use Rattle.cf_unit.proofs.Exact.{Exact, not-read, exact, exact-steps, exact-elements}

pub record Tells (o : List Token → Option Spot) (S : Spotted) : Type 0 where
  pub sound : (ts : List Token) (p : Spot) → o ts ≡ Some p → S ts p
  pub complete : (ts : List Token) (p : Spot) → S ts p → o ts ≡ Some p

nothing-is-some : {P : Type 0} (p : Spot) → None ≡ Some p → P
nothing-is-some p e = some-is-not-none None p refl e

nowhere-told : (o : List Token → Option Spot) (S : Spotted) → Tells o S → (ts : List Token) → o ts ≡ None → Nowhere S ts
nowhere-told o S t ts none p s = some-is-not-none (o ts) p none (t.complete ts p s)

told-nowhere : (o : List Token → Option Spot) (S : Spotted) → Tells o S → (ts : List Token) → Nowhere S ts → o ts ≡ None
told-nowhere o S t ts never = go (o ts) refl
  where
    go : (r : Option Spot) → o ts ≡ r → o ts ≡ None
    go None is = is
    go (Some p) is = absurd (never p (t.sound ts p is))

tells-or : (o u : List Token → Option Spot) (S R : Spotted) → Tells o S → Tells u R
    → Tells (λ ts. or_spot (o ts) (u ts)) (λ ts p. S ts p ⊎ (Nowhere S ts × R ts p))
tells-or o u S R one two = record {
  sound = λ ts p e. found ts p (o ts) refl e;
  complete = λ ts p s. go ts p s;
}
  where
    found : (ts : List Token) (p : Spot) (r : Option Spot) → o ts ≡ r → or_spot r (u ts) ≡ Some p → S ts p ⊎ (Nowhere S ts × R ts p)
    found ts p None is e = inr (nowhere-told o S one ts is, two.sound ts p e)
    found ts p (Some q) is e = inl (one.sound ts p (is ∙ e))

    go : (ts : List Token) (p : Spot) → S ts p ⊎ (Nowhere S ts × R ts p) → or_spot (o ts) (u ts) ≡ Some p
    go ts p (inl s) = ap (λ r. or_spot r (u ts)) (one.complete ts p s)
    go ts p (inr s) = ap (λ r. or_spot r (u ts)) (told-nowhere o S one ts s.0) ∙ two.complete ts p s.1

tells-behind : {A : Type 0} (p : Parse A) (L : Language A) (o : A → List Token → Option Spot) (S : A → Spotted) → Exact p L → ((a : A) → Tells (o a) (S a))
    → Tells (λ ts. spot_by (p ts) o None) (λ ts x. (a : A) × (mid : List Token) × L ts a mid × S a mid x)
tells-behind {A = A} p L o S one two = record {
  sound = λ ts x e. found ts x (p ts) refl e;
  complete = λ ts x (a, mid, l, s). ap (λ r. spot_by r o None) (one.complete ts a mid l) ∙ (two a).complete mid x s;
}
  where
    found : (ts : List Token) (x : Spot) (r : Option (A × List Token)) → p ts ≡ r → spot_by r o None ≡ Some x → (a : A) × (mid : List Token) × L ts a mid × S a mid x
    found ts x None is e = nothing-is-some x e
    found ts x (Some q) is e = (q.0, q.1, one.sound ts q.0 q.1 is, (two q.0).sound q.1 x e)

tells-by : (test : List Token → Bool) (o u : List Token → Option Spot) (S R : Spotted) → Tells o S → Tells u R
    → Tells (λ ts. spot_if (test ts) (o ts) (u ts)) (λ ts p. ((test ts ≡ true) × S ts p) ⊎ ((test ts ≡ false) × R ts p))
tells-by test o u S R one two = record {
  sound = λ ts p e. found ts p (test ts) refl e;
  complete = λ ts p s. go ts p s;
}
  where
    found : (ts : List Token) (p : Spot) (b : Bool) → test ts ≡ b → spot_if b (o ts) (u ts) ≡ Some p → ((test ts ≡ true) × S ts p) ⊎ ((test ts ≡ false) × R ts p)
    found ts p true is e = inl (is, one.sound ts p e)
    found ts p false is e = inr (is, two.sound ts p e)

    go : (ts : List Token) (p : Spot) → ((test ts ≡ true) × S ts p) ⊎ ((test ts ≡ false) × R ts p) → spot_if (test ts) (o ts) (u ts) ≡ Some p
    go ts p (inl s) = ap (λ b. spot_if b (o ts) (u ts)) s.0 ∙ one.complete ts p s.1
    go ts p (inr s) = ap (λ b. spot_if b (o ts) (u ts)) s.0 ∙ two.complete ts p s.1

-- where nothing begins so
tells-unless : {A : Type 0} (p : Parse A) (L : Language A) (o : List Token → Option Spot) (S : Spotted) → Exact p L → Tells o S
    → Tells (λ ts. spot_by (p ts) (λ _ _. None) (o ts)) (λ ts x. (Begins L ts → ⊥) × S ts x)
tells-unless {A = A} p L o S one two = record {
  sound = λ ts x e. found ts x (p ts) refl e;
  complete = λ ts x s. ap (λ r. spot_by r (λ _ _. None) (o ts)) (not-read p L one ts s.0) ∙ two.complete ts x s.1;
}
  where
    found : (ts : List Token) (x : Spot) (r : Option (A × List Token)) → p ts ≡ r → spot_by r (λ _ _. None) (o ts) ≡ Some x → (Begins L ts → ⊥) × S ts x
    found ts x None is e = ((λ (y, rest, l). some-is-not-none (p ts) (y, rest) is (one.complete ts y rest l)), two.sound ts x e)
    found ts x (Some q) is e = nothing-is-some x e

-- the place of an element itself
tells-here : (names : Names) → Tells (λ ts. Some (record { at = place ts; names = names })) (λ ts p. p ≡ record { at = place ts; names = names })
tells-here names = record { sound = λ ts p e. sym (some-value _ _ e); complete = λ ts p e. ap (λ q. Some q) (sym e) }

tells-unended : (ends : List Token → Bool) (o : List Token → Option Spot) (S : Spotted) (names : Names) → Tells o S
    → Tells (λ ts. spot_if (ends ts) None (or_spot (o ts) (Some (record { at = place ts; names = names })))) (Unended ends S names)
tells-unended ends o S names one = record {
  sound = λ ts p e. found ts p (ends ts) refl e;
  complete = λ ts p s. ap (λ b. spot_if b None (or_spot (o ts) (Some (record { at = place ts; names = names })))) s.0 ∙ both.complete ts p s.1;
}
  where
    both : Tells (λ ts. or_spot (o ts) (Some (record { at = place ts; names = names }))) (Fails S names)
    both = tells-or o _ S _ one (tells-here names)

    found : (ts : List Token) (p : Spot) (b : Bool) → ends ts ≡ b → spot_if b None (or_spot (o ts) (Some (record { at = place ts; names = names }))) ≡ Some p → Unended ends S names ts p
    found ts p true is e = nothing-is-some p e
    found ts p false is e = (is, both.sound ts p e)

tells-twice : {A : Type 0} (p : Parse A) (L : Language A) (o : List Token → Option Spot) (S : Spotted) (u : A → List Token → Option Spot) (R : A → Spotted)
    (v : Names → List Token → Option Spot) (Q : Names → Spotted) → Exact p L → Tells o S → ((a : A) → Tells (u a) (R a)) → ((n : Names) → Tells (v n) (Q n))
    → Tells (λ ts. spot_by (p ts) (λ a _. u a ts) (with_spot (o ts) (λ q. v q.names ts)))
    (λ ts x. ((a : A) × (mid : List Token) × L ts a mid × R a ts x) ⊎ ((Begins L ts → ⊥) × ((q : Spot) × S ts q × Q q.names ts x)))
tells-twice {A = A} p L o S u R v Q one two three four = record {
  sound = λ ts x e. found ts x (p ts) refl e;
  complete = λ ts x s. go ts x s;
}
  where
    inside : (ts : List Token) (x : Spot) (r : Option Spot) → o ts ≡ r → with_spot r (λ q. v q.names ts) ≡ Some x → (q : Spot) × S ts q × Q q.names ts x
    inside ts x None is e = nothing-is-some x e
    inside ts x (Some q) is e = (q, two.sound ts q is, (four q.names).sound ts x e)

    found : (ts : List Token) (x : Spot) (r : Option (A × List Token)) → p ts ≡ r → spot_by r (λ a _. u a ts) (with_spot (o ts) (λ q. v q.names ts)) ≡ Some x
        → ((a : A) × (mid : List Token) × L ts a mid × R a ts x) ⊎ ((Begins L ts → ⊥) × ((q : Spot) × S ts q × Q q.names ts x))
    found ts x None is e = inr ((λ (y, rest, l). some-is-not-none (p ts) (y, rest) is (one.complete ts y rest l)), inside ts x (o ts) refl e)
    found ts x (Some q) is e = inl (q.0, q.1, one.sound ts q.0 q.1 is, (three q.0).sound ts x e)

    go : (ts : List Token) (x : Spot) → ((a : A) × (mid : List Token) × L ts a mid × R a ts x) ⊎ ((Begins L ts → ⊥) × ((q : Spot) × S ts q × Q q.names ts x))
        → spot_by (p ts) (λ a _. u a ts) (with_spot (o ts) (λ q. v q.names ts)) ≡ Some x
    go ts x (inl (a, mid, l, s)) = ap (λ r. spot_by r (λ b _. u b ts) (with_spot (o ts) (λ q. v q.names ts))) (one.complete ts a mid l) ∙ (three a).complete ts x s
    go ts x (inr (never, (q, s, t))) = ap (λ r. spot_by r (λ b _. u b ts) (with_spot (o ts) (λ q. v q.names ts))) (not-read p L one ts never)
        ∙ (ap (λ r. with_spot r (λ q. v q.names ts)) (two.complete ts q s) ∙ (four q.names).complete ts x t)

tells-nowhere : Tells (λ ts. None) (λ ts p. ⊥)
tells-nowhere = record { sound = λ ts p e. nothing-is-some p e; complete = λ ts p s. absurd s }

-- ---- every rule

pub tells : {A : Type 0} (g : Rule A) → Tells (stuck_at g) (Stuck g)
tells (empty x) = tells-nowhere
tells (exactly f) = tells-nowhere
tells (expression form names) = tells-nowhere
tells (declarator names) = tells-nowhere
tells (parameters names) = tells-nowhere
tells (then g h) = tells-or (stuck_at g) _ (Stuck g) _ (tells g) (tells-behind (reading g) (spells g) (λ a mid. stuck_at (h a) mid) (λ a. Stuck (h a)) (exact g) (λ a. tells (h a)))
tells (by test g h) = tells-by test (stuck_at g) (stuck_at h) (Stuck g) (Stuck h) (tells g) (tells h)
tells (rather g h) = tells-unless (reading (rather g h)) (spells (rather g h)) (λ ts. or_spot (stuck_at g ts) (stuck_at h ts)) _ (exact (rather g h))
    (tells-or (stuck_at g) (stuck_at h) (Stuck g) (Stuck h) (tells g) (tells h))
tells (unless g h) = tells-unless (reading g) (spells g) (stuck_at h) (Stuck h) (exact g) (tells h)
tells (often step a) = tells-behind (λ ts. row (λ b us. taking (reading (step b) us) us) (length ts) a ts) (AsOften (λ b. Taking (spells (step b))) a)
    (λ b mid. stuck_at (step b) mid) (λ b. Stuck (step b)) (exact-steps (λ b. reading (step b)) (λ b. spells (step b)) (λ b. exact (step b)) a) (λ b. tells (step b))
tells (until ends names step a) = tells-behind (λ ts. row (λ b. element ends (reading (step b))) (length ts) a ts) (AsOften (λ b. Element ends (spells (step b))) a)
    _ (λ b. Unended ends (Stuck (step b)) (names b)) (exact-elements ends (λ b. reading (step b)) (λ b. spells (step b)) (λ b. exact (step b)) a)
    (λ b. tells-unended ends (stuck_at (step b)) (Stuck (step b)) (names b) (tells (step b)))
tells (closed g) = tells-nowhere
tells (twice names step) = tells-twice (reading (step left_out)) (spells (step left_out)) (stuck_at (step left_out)) (Stuck (step left_out))
    (λ a. stuck_at (step (late (names a)))) (λ a. Stuck (step (late (names a)))) (λ n. stuck_at (step (late n))) (λ n. Stuck (step (late n)))
    (exact (step left_out)) (tells (step left_out)) (λ a. tells (step (late (names a)))) (λ n. tells (step (late n)))

-- tokens are stuck at one place
pub one-spot : {A : Type 0} (g : Rule A) (ts : List Token) (p q : Spot) → Stuck g ts p → Stuck g ts q → p ≡ q
one-spot g ts p q s t = some-value p q (sym ((tells g).complete ts p s) ∙ (tells g).complete ts q t)
