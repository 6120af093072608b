-- Rules that never hold a place, and the places of rules put together from those of their parts.
use Rattle.std.proofs.Common.{◌≡◌, Bool, true, false, List, length, Option, Some, None, refl, sym, ◌∙◌, ap}
use Rattle.cf_tokens.specs.declared.token.Token.{Token}
use Rattle.cf_syntax.specs.NamesData.{Names}
use Rattle.cf_syntax.specs.Parse.{Parse, pure, with_rest}
use Rattle.cf_unit.specs.Known.{Known}
use Rattle.cf_unit.specs.Read.{taking, row, reading, or_spot, spot_if, spot_by, stuck_at}
use Rattle.cf_unit.specs.Rule.{Form, Rule, empty, exactly, expression, declarator, parameters, then, by, rather, unless, often, made}
use Rattle.cf_unit.specs.Stuck.{Spot}
use Rattle.cf_stuck_statement.specs.Parts.{Places, behind, unread, behind_or, either, where_seen, nowhere, known_at}

-- no tokens are stuck by this rule
pub record Quiet {A : Type 0} (g : Rule A) : Type 0 where
  pub nothing : (ts : List Token) → stuck_at g ts ≡ None

-- tokens are stuck by this rule at these places
pub record Is {A : Type 0} (g : Rule A) (s : Places) : Type 0 where
  pub same : (ts : List Token) → s ts ≡ stuck_at g ts

-- ---- places

by-nothing : {A : Type 0} (o : Option (A × List Token)) (f : A → Places) → ((a : A) (us : List Token) → f a us ≡ None) → spot_by o f None ≡ None
by-nothing None f e = refl
by-nothing (Some q) f e = e q.0 q.1

pub by-same : {A : Type 0} (o : Option (A × List Token)) (f g : A → Places) (x : Option Spot) → ((a : A) (us : List Token) → f a us ≡ g a us)
    → spot_by o f x ≡ spot_by o g x
by-same None f g x e = refl
by-same (Some q) f g x e = e q.0 q.1

-- what is found behind a value, by what is known there alone
pub by-known : {A : Type 0} (o : Option ((A × Known) × List Token)) (f : Known → Places) (x : Option Spot)
    → spot_by (with_rest o (λ a. pure a.1)) f x ≡ spot_by o (λ a mid. f a.1 mid) x
by-known None f x = refl
by-known (Some q) f x = refl

or-nothing : (x y : Option Spot) → y ≡ None → or_spot x y ≡ x
or-nothing None y e = e
or-nothing (Some p) y e = refl

nothing-or : (x y : Option Spot) → x ≡ None → or_spot x y ≡ y
nothing-or x y e = ap (λ q. or_spot q y) e

pub or-same : (x y x' y' : Option Spot) → x ≡ x' → y ≡ y' → or_spot x y ≡ or_spot x' y'
or-same x y x' y' e f = ap (λ q. or_spot q y) e ∙ ap (λ q. or_spot x' q) f

pub if-same : (b : Bool) (x y x' y' : Option Spot) → x ≡ x' → y ≡ y' → spot_if b x y ≡ spot_if b x' y'
if-same true x y x' y' e f = e
if-same false x y x' y' e f = f

-- what is found behind what was read, where the part before is not stuck when it is read
either-read : {A : Type 0} (o : Option (A × List Token)) (f : A → Places) (x : Option Spot) → or_spot (spot_by o (λ _ _. None) x) (spot_by o f None) ≡ spot_by o f x
either-read None f x = or-nothing x None refl
either-read (Some q) f x = refl

-- ---- rules that hold no place

pub quiet-empty : {A : Type 0} (x : A) → Quiet (empty x)
quiet-empty x = record { nothing = λ ts. refl }

pub quiet-exactly : {A : Type 0} (p : Parse A) → Quiet (exactly p)
quiet-exactly p = record { nothing = λ ts. refl }

pub quiet-form : (form : Form) (names : Names) → Quiet (expression form names)
quiet-form form names = record { nothing = λ ts. refl }

pub quiet-named : (names : Names) → Quiet (declarator names)
quiet-named names = record { nothing = λ ts. refl }

pub quiet-params : (names : Names) → Quiet (parameters names)
quiet-params names = record { nothing = λ ts. refl }

pub quiet-then : {A B : Type 0} {g : Rule A} {h : A → Rule B} → Quiet g → ((a : A) → Quiet (h a)) → Quiet (then g h)
quiet-then {g = g} {h = h} one two = record {
  nothing = λ ts. nothing-or (stuck_at g ts) _ (one.nothing ts) ∙ by-nothing (reading g ts) (λ a mid. stuck_at (h a) mid) (λ a us. (two a).nothing us);
}

pub quiet-made : {A B : Type 0} {f : A → B} {g : Rule A} → Quiet g → Quiet (made f g)
quiet-made {f = f} one = quiet-then one (λ a. quiet-empty (f a))

pub quiet-by : {A : Type 0} {test : List Token → Bool} {g h : Rule A} → Quiet g → Quiet h → Quiet (by test g h)
quiet-by {test = test} {g = g} {h = h} one two = record { nothing = λ ts. go ts (test ts) }
  where
    go : (ts : List Token) (b : Bool) → spot_if b (stuck_at g ts) (stuck_at h ts) ≡ None
    go ts true = one.nothing ts
    go ts false = two.nothing ts

pub quiet-unless : {A B : Type 0} {g : Rule B} {h : Rule A} → Quiet h → Quiet (unless g h)
quiet-unless {B = B} {g = g} {h = h} one = record { nothing = λ ts. go (reading g ts) (stuck_at h ts) (one.nothing ts) }
  where
    go : (o : Option (B × List Token)) (x : Option Spot) → x ≡ None → spot_by o (λ _ _. None) x ≡ None
    go None x e = e
    go (Some q) x e = refl

pub quiet-often : {A : Type 0} {step : A → Rule A} {a : A} → ((b : A) → Quiet (step b)) → Quiet (often step a)
quiet-often {step = step} {a = a} each = record {
  nothing = λ ts. by-nothing (row (λ b us. taking (reading (step b) us) us) (length ts) a ts) (λ b mid. stuck_at (step b) mid) (λ b us. (each b).nothing us);
}

-- ---- the places of rules

pub is-quiet : {A : Type 0} {g : Rule A} → Quiet g → Is g nowhere
is-quiet one = record { same = λ ts. sym (one.nothing ts) }

-- behind a part that holds no place
pub is-then : {A B : Type 0} {g : Rule A} {h : A → Rule B} (s : A → Places) → Quiet g → ((a : A) → Is (h a) (s a)) → Is (then g h) (behind (reading g) s)
is-then {g = g} {h = h} s one two = record {
  same = λ ts. by-same (reading g ts) s (λ a mid. stuck_at (h a) mid) None (λ a us. (two a).same us) ∙ sym (nothing-or (stuck_at g ts) _ (one.nothing ts));
}

-- before parts that hold no place
pub is-before : {A B : Type 0} {g : Rule A} {h : A → Rule B} {s : Places} → Is g s → ((a : A) → Quiet (h a)) → Is (then g h) s
is-before {g = g} {h = h} one two = record {
  same = λ ts. one.same ts ∙ sym (or-nothing (stuck_at g ts) _ (by-nothing (reading g ts) (λ a mid. stuck_at (h a) mid) (λ a us. (two a).nothing us)));
}

pub is-made : {A B : Type 0} {f : A → B} {g : Rule A} {s : Places} → Is g s → Is (made f g) s
is-made {f = f} one = is-before one (λ a. quiet-empty (f a))

pub is-by : {A : Type 0} {test : List Token → Bool} {g h : Rule A} (s t : Places) → Is g s → Is h t → Is (by test g h) (where_seen test s t)
is-by {test = test} {g = g} {h = h} s t one two = record { same = λ ts. if-same (test ts) (s ts) (t ts) (stuck_at g ts) (stuck_at h ts) (one.same ts) (two.same ts) }

-- in a part, or else behind it
pub is-both : {A B : Type 0} {g : Rule A} {h : A → Rule B} (s : Places) (t : A → Places) → Is g s → ((a : A) → Is (h a) (t a)) → Is (then g h) (either s (behind (reading g) t))
is-both {g = g} {h = h} s t one two = record {
  same = λ ts. or-same (s ts) (spot_by (reading g ts) t None) (stuck_at g ts) (spot_by (reading g ts) (λ a mid. stuck_at (h a) mid) None) (one.same ts)
      (by-same (reading g ts) t (λ a mid. stuck_at (h a) mid) None (λ a us. (two a).same us));
}

-- the same by what is known behind it alone
pub is-both-known : {A B : Type 0} {g : Rule (A × Known)} {h : A × Known → Rule B} (s : Places) (t : Known → Places) → Is g s
    → ((a : A × Known) → Is (h a) (t a.1)) → Is (then g h) (either s (behind (known_at (reading g)) t))
is-both-known {g = g} {h = h} s t one two = record {
  same = λ ts. or-same (s ts) (spot_by (known_at (reading g) ts) t None) (s ts) (spot_by (reading g ts) (λ a mid. t a.1 mid) None) refl (by-known (reading g ts) t None)
      ∙ (is-both s (λ a. t a.1) one two).same ts;
}

-- one of two rules, of which what can be read by the first is read by it: nothing is stuck where one can be read
pub is-rather : {A : Type 0} {g h : Rule A} (p : Parse Known) (s t : Places) → ((ts : List Token) → spot_by (p ts) (λ _ _. None) (or_spot (s ts) (t ts))
    ≡ spot_by (reading (rather g h) ts) (λ _ _. None) (or_spot (s ts) (t ts))) → Is g s → Is h t → Is (rather g h) (unread p (either s t))
is-rather {g = g} {h = h} p s t read one two = record {
  same = λ ts. read ts ∙ ap (λ x. spot_by (reading (rather g h) ts) (λ _ _. None) x) (or-same (s ts) (t ts) (stuck_at g ts) (stuck_at h ts) (one.same ts) (two.same ts));
}

-- a part of two rules, and what stands behind it
pub is-rather-then : {A B : Type 0} {g h : Rule A} {f : A → Rule B} (t : A → Places) (s : Places) → Is g s → Quiet h → ((a : A) → Is (f a) (t a))
    → Is (then (rather g h) f) (behind_or (reading (rather g h)) t s)
is-rather-then {g = g} {h = h} {f = f} t s one quiet two = record {
  same = λ ts. by-same (reading (rather g h) ts) t (λ a mid. stuck_at (f a) mid) (s ts) (λ a us. (two a).same us)
      ∙ sym (either-read (reading (rather g h) ts) (λ a mid. stuck_at (f a) mid) (s ts))
      ∙ ap (λ x. or_spot (spot_by (reading (rather g h) ts) (λ _ _. None) x) (spot_by (reading (rather g h) ts) (λ a mid. stuck_at (f a) mid) None))
      (one.same ts ∙ sym (or-nothing (stuck_at g ts) (stuck_at h ts) (quiet.nothing ts)));
}
