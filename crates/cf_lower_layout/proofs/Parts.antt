-- Parts lie inside, and two parts of one object lie one in the other or apart.
use Rattle.std.proofs.Common.{◌≡◌, ℕ, suc, ◌+◌, ◌*◌, ◌≤◌, ◌<◌, Bool, true, false, ◌==◌, nat_lt, List, [], ◌∷◌, ◌++◌, refl, sym, ◌∙◌, ap, subst, arith, append-nil, append_assoc, ◌⊎◌, inl, inr}
use Rattle.std.proofs.Math.Nat.{suc-mul, mul-le-mul_right}
use Rattle.std.proofs.lemmas.Bool.Decides.{nat_tests}
use Rattle.cf_base.proofs.Tests.{all_of, both, bytes_same, same_bytes}
use Rattle.cf_core.specs.Types.{SourceType, array, const, plain, element}
use Rattle.cf_core.specs.Classes.{Class}
use Rattle.cf_core.specs.Subobjects.{Step, base, virtual, step_eq}
use Rattle.cf_core.specs.Core.{Part, item, past, field, within}
use Rattle.cf_core.specs.Places.{Route, part_eq, route_eq, part_type, type_at, is_scalar}
use Rattle.cf_core.specs.Size.{size}
use Rattle.cf_lower_layout.specs.Layout.{has_item, has, before, offset, leads, Apart}

-- ---- one step

pub size-plain : (cs : List Class) (t : SourceType) → size cs (plain t) ≡ size cs t
size-plain cs (const t) = refl
size-plain cs t = refl

item-inside : (cs : List Class) (t : SourceType) (i : ℕ) → has_item t i ≡ true → i * size cs (element t) + size cs (element t) ≤ size cs t
item-inside cs (array t n) i h =
    let lt : suc i ≤ n = grind (arith, nat_tests, h) in
    let le : suc i * size cs t ≤ n * size cs t = mul-le-mul_right (size cs t) lt in
    let e = suc-mul i (size cs t) in
    omega (arith, le, e)
item-inside cs t i h = absurd (cc)

pub part-inside : (cs : List Class) (t : SourceType) (s : Part) → has t s ≡ true → before cs t s + size cs (part_type cs t s) ≤ size cs t
part-inside cs t (item i) h = subst (λ n. before cs t (item i) + size cs (element (plain t)) ≤ n) (size-plain cs t) (item-inside cs (plain t) i h)
part-inside cs t past h = absurd (cc)
part-inside cs t (field i) h = absurd (cc)
part-inside cs t (within s) h = absurd (cc)

items-apart : (n i j : ℕ) → i < j → i * n + n ≤ j * n
items-apart n i j lt =
    let le : suc i * n ≤ j * n = mul-le-mul_right n lt in
    let e = suc-mul i n in
    omega (arith, le, e)

numbers-apart : (n i j : ℕ) → i == j ≡ false → Apart (i * n) n (j * n) n
numbers-apart n i j e = by_order (nat_lt i j) refl
  where
    by_order : (b : Bool) → nat_lt i j ≡ b → Apart (i * n) n (j * n) n
    by_order true lt = inl (items-apart n i j (grind (arith, nat_tests, lt)))
    by_order false ge = inr (items-apart n j i (grind (arith, nat_tests, ge, e)))

pub parts-apart : (cs : List Class) (t : SourceType) (s r : Part) → has t s ≡ true → has t r ≡ true → part_eq s r ≡ false
    → Apart (before cs t s) (size cs (part_type cs t s)) (before cs t r) (size cs (part_type cs t r))
parts-apart cs t (item i) (item j) h k e = numbers-apart (size cs (element (plain t))) i j e
parts-apart cs t (item i) past h k e = absurd (cc)
parts-apart cs t (item i) (field j) h k e = absurd (cc)
parts-apart cs t (item i) (within r) h k e = absurd (cc)
parts-apart cs t past r h k e = absurd (cc)
parts-apart cs t (field i) r h k e = absurd (cc)
parts-apart cs t (within s) r h k e = absurd (cc)

-- ---- routes

pub leads-step : (cs : List Class) (t : SourceType) (s : Part) (π : Route) → leads cs t (s ∷ π) ≡ true → (leads cs t π ≡ true) × (has (type_at cs t π) s ≡ true)
leads-step cs t s π h = both (leads cs t π) (has (type_at cs t π) s) h

-- the range of a part lies in that of what it is a part of
pub step-inside : (cs : List Class) (t : SourceType) (s : Part) (π : Route) → leads cs t (s ∷ π) ≡ true
    → offset cs t (s ∷ π) + size cs (type_at cs t (s ∷ π)) ≤ offset cs t π + size cs (type_at cs t π)
step-inside cs t s π h =
    let inside = part-inside cs (type_at cs t π) s (leads-step cs t s π h).1 in
    omega (arith, inside)

-- a part of an object lies in it
pub route-inside : (cs : List Class) (t : SourceType) (π : Route) → leads cs t π ≡ true → offset cs t π + size cs (type_at cs t π) ≤ size cs t
route-inside cs t [] h = omega arith
route-inside cs t (s ∷ π) h =
    let inner = step-inside cs t s π h in
    let outer = route-inside cs t π (leads-step cs t s π h).0 in
    omega (arith, inner, outer)

pub leads-front : (cs : List Class) (t : SourceType) (σ π : Route) → leads cs t (σ ++ π) ≡ true → leads cs t π ≡ true
leads-front cs t [] π h = h
leads-front cs t (s ∷ σ) π h = leads-front cs t σ π (leads-step cs t s (σ ++ π) h).0

-- a part of a part lies in it
pub record Within (cs : List Class) (t : SourceType) (π ρ : Route) : Type 0 where
  pub start : offset cs t ρ ≤ offset cs t π
  pub end : offset cs t π + size cs (type_at cs t π) ≤ offset cs t ρ + size cs (type_at cs t ρ)

pub front-inside : (cs : List Class) (t : SourceType) (σ π : Route) → leads cs t (σ ++ π) ≡ true → Within cs t (σ ++ π) π
front-inside cs t [] π h = record { start = omega arith; end = omega arith }
front-inside cs t (s ∷ σ) π h =
    let inner = front-inside cs t σ π (leads-step cs t s (σ ++ π) h).0 in
    let start = inner.start in
    let end = inner.end in
    let step = step-inside cs t s (σ ++ π) h in
    record { start = omega (arith, start); end = omega (arith, end, step) }

-- ---- two routes

same-number : (i j : ℕ) → i == j ≡ true → i ≡ j
same-number i j e = grind (arith, nat_tests, e)

same-step : (s r : Step) → step_eq s r ≡ true → s ≡ r
same-step (base i) (base j) e = ap base (same-number i j e)
same-step (base i) (virtual d) e = absurd (cc)
same-step (virtual c) (base j) e = absurd (cc)
same-step (virtual c) (virtual d) e = ap virtual (same_bytes c d e)

pub same-part : (s r : Part) → part_eq s r ≡ true → s ≡ r
same-part (item i) (item j) e = ap item (same-number i j e)
same-part (item i) past e = absurd (cc)
same-part (item i) (field j) e = absurd (cc)
same-part (item i) (within r) e = absurd (cc)
same-part past (item j) e = absurd (cc)
same-part past past e = refl
same-part past (field j) e = absurd (cc)
same-part past (within r) e = absurd (cc)
same-part (field i) (item j) e = absurd (cc)
same-part (field i) past e = absurd (cc)
same-part (field i) (field j) e = ap field (same-number i j e)
same-part (field i) (within r) e = absurd (cc)
same-part (within s) (item j) e = absurd (cc)
same-part (within s) past e = absurd (cc)
same-part (within s) (field j) e = absurd (cc)
same-part (within s) (within r) e = ap within (same-step s r e)

pub same-route : (π ρ : Route) → route_eq π ρ ≡ true → π ≡ ρ
same-route [] [] e = refl
same-route [] (r ∷ ρ) e = absurd (cc)
same-route (s ∷ π) [] e = absurd (cc)
same-route (s ∷ π) (r ∷ ρ) e =
    let parts = both (part_eq s r) (route_eq π ρ) e in
    ap (λ (x : Part). x ∷ π) (same-part s r parts.0) ∙ ap (λ (x : Route). r ∷ x) (same-route π ρ parts.1)

number-self : (i : ℕ) → i == i ≡ true
number-self i = grind (arith, nat_tests)

part-self : (s : Part) → part_eq s s ≡ true
part-self (item i) = number-self i
part-self past = refl
part-self (field i) = number-self i
part-self (within (base i)) = number-self i
part-self (within (virtual c)) = bytes_same c c refl

pub route-self : (π : Route) → route_eq π π ≡ true
route-self [] = refl
route-self (s ∷ π) = all_of (part_eq s s) (route_eq π π) (part-self s) (route-self π)

-- a route that isn't empty has a first step from the root, which stands last
record First (s : Part) (σ : Route) : Type 0 where
  front : Route
  step : Part
  is : s ∷ σ ≡ front ++ step ∷ []

first-of : (s : Part) (σ : Route) → First s σ
first-of s [] = record { front = []; step = s; is = refl }
first-of s (r ∷ σ) = let f = first-of r σ in record { front = s ∷ f.front; step = f.step; is = ap (λ (x : Route). s ∷ x) f.is }

-- how two parts of an object lie
pub data Placed (cs : List Class) (t : SourceType) (π ρ : Route) : Type 0 where
  lies_in : (σ : Route) → π ≡ σ ++ ρ → Placed cs t π ρ
  holds : (σ : Route) → ρ ≡ σ ++ π → Placed cs t π ρ
  apart : Apart (offset cs t π) (size cs (type_at cs t π)) (offset cs t ρ) (size cs (type_at cs t ρ)) → Placed cs t π ρ

-- parts of parts that lie apart lie apart
pub apart-inside : (p n q k a l b m : ℕ) → Apart p n q k → p ≤ a → a + l ≤ p + n → q ≤ b → b + m ≤ q + k → Apart a l b m
apart-inside p n q k a l b m (inl le) pa al qb bm = inl (omega (arith, le, pa, al, qb, bm))
apart-inside p n q k a l b m (inr le) pa al qb bm = inr (omega (arith, le, pa, al, qb, bm))

-- the ranges of two parts of one part, by those from its own start
siblings : (o p n q k : ℕ) → Apart p n q k → Apart (o + p) n (o + q) k
siblings o p n q k (inl le) = inl (omega (arith, le))
siblings o p n q k (inr le) = inr (omega (arith, le))

module _ (cs : List Class) (t : SourceType) where
  -- a part of `r ∷ ρ`, beside the sibling `s ∷ ρ`
  beside : (s r : Part) (front ρ π : Route) → leads cs t (s ∷ ρ) ≡ true → leads cs t (front ++ r ∷ ρ) ≡ true → part_eq r s ≡ false
      → Apart (offset cs t (front ++ r ∷ ρ)) (size cs (type_at cs t (front ++ r ∷ ρ))) (offset cs t (s ∷ ρ)) (size cs (type_at cs t (s ∷ ρ)))
  beside s r front ρ π ls lf e =
      let lr = leads-front cs t front (r ∷ ρ) lf in
      let in_r = front-inside cs t front (r ∷ ρ) lf in
      let start = in_r.start in
      let end = in_r.end in
      let near = parts-apart cs (type_at cs t ρ) r s (leads-step cs t r ρ lr).1 (leads-step cs t s ρ ls).1 e in
      apart-inside _ _ _ _ _ _ _ _ (siblings (offset cs t ρ) _ _ _ _ near) start end (omega arith) (omega arith)

  -- below a part in which the first lies
  below : (s : Part) (ρ π : Route) (σ : Route) → leads cs t π ≡ true → leads cs t (s ∷ ρ) ≡ true → π ≡ σ ++ ρ → Placed cs t π (s ∷ ρ)
  below s ρ π [] lp ls e = holds (s ∷ []) (ap (λ (x : Route). s ∷ x) (sym e))
  below s ρ π (r ∷ σ) lp ls e = by_step f.step f.front (e ∙ ap (λ (x : Route). x ++ ρ) f.is ∙ append_assoc f.front (f.step ∷ []) ρ)
    where
      f : First r σ
      f = first-of r σ

      by_test : (b : Bool) (q : Part) (front : Route) → part_eq q s ≡ b → π ≡ front ++ q ∷ ρ → Placed cs t π (s ∷ ρ)
      by_test true q front same e = lies_in front (e ∙ ap (λ (x : Part). front ++ x ∷ ρ) (same-part q s same))
      by_test false q front differ e =
          subst (λ (x : Route). Placed cs t x (s ∷ ρ)) (sym e) (apart (beside s q front ρ π ls (subst (λ (x : Route). leads cs t x ≡ true) e lp) differ))

      by_step : (q : Part) (front : Route) → π ≡ front ++ q ∷ ρ → Placed cs t π (s ∷ ρ)
      by_step q front e = by_test (part_eq q s) q front refl e

  -- Two parts of an object: one lies in the other, or they lie apart.
  pub placed : (π ρ : Route) → leads cs t π ≡ true → leads cs t ρ ≡ true → Placed cs t π ρ
  placed π [] lp lr = lies_in π (sym (append-nil π))
  placed π (s ∷ ρ) lp lr = by_front (placed π ρ lp (leads-step cs t s ρ lr).0)
    where
      by_front : Placed cs t π ρ → Placed cs t π (s ∷ ρ)
      by_front (lies_in σ e) = below s ρ π σ lp lr e
      by_front (holds σ e) = holds (s ∷ σ) (ap (λ (x : Route). s ∷ x) e)
      by_front (apart a) =
          let step = step-inside cs t s ρ lr in
          apart (apart-inside _ _ _ _ _ _ _ _ a (omega arith) (omega arith) (omega arith) (omega (arith, step)))

  -- ---- scalars

  no-part : (u : SourceType) (s : Part) → is_scalar u ≡ true → has u s ≡ true → ⊥
  no-part u (item i) sc h = no-item u i sc h
    where
      no-item : (u : SourceType) (i : ℕ) → is_scalar u ≡ true → has_item (plain u) i ≡ true → ⊥
      no-item (const u) i sc h = inner u sc h
        where
          inner : (u : SourceType) → is_scalar u ≡ true → has_item u i ≡ true → ⊥
          inner (array u n) sc h = absurd (cc)
          inner u sc h = absurd (cc)
      no-item (array u n) i sc h = absurd (cc)
      no-item u i sc h = absurd (cc)
  no-part u past sc h = absurd (cc)
  no-part u (field i) sc h = absurd (cc)
  no-part u (within s) sc h = absurd (cc)

  -- nothing but a scalar itself lies in it
  pub scalar-alone : (σ ρ : Route) → leads cs t (σ ++ ρ) ≡ true → is_scalar (type_at cs t ρ) ≡ true → σ ≡ []
  scalar-alone [] ρ h sc = refl
  scalar-alone (s ∷ σ) ρ h sc = absurd (inner s σ h (scalar-alone σ ρ (leads-step cs t s (σ ++ ρ) h).0 sc))
    where
      inner : (s : Part) (σ : Route) → leads cs t (s ∷ σ ++ ρ) ≡ true → σ ≡ [] → ⊥
      inner s σ h e = no-part (type_at cs t ρ) s sc (subst (λ (x : Route). has (type_at cs t (x ++ ρ)) s ≡ true) e (leads-step cs t s (σ ++ ρ) h).1)

  -- Two scalars of one object are the same or lie apart.
  pub scalars-placed : (π ρ : Route) → leads cs t π ≡ true → leads cs t ρ ≡ true → is_scalar (type_at cs t π) ≡ true → is_scalar (type_at cs t ρ) ≡ true
      → (π ≡ ρ) ⊎ Apart (offset cs t π) (size cs (type_at cs t π)) (offset cs t ρ) (size cs (type_at cs t ρ))
  scalars-placed π ρ lp lr sp sr = by_place (placed π ρ lp lr)
    where
      by_place : Placed cs t π ρ → (π ≡ ρ) ⊎ Apart (offset cs t π) (size cs (type_at cs t π)) (offset cs t ρ) (size cs (type_at cs t ρ))
      by_place (lies_in σ e) = inl (e ∙ ap (λ (x : Route). x ++ ρ) (scalar-alone σ ρ (subst (λ (x : Route). leads cs t x ≡ true) e lp) sr))
      by_place (holds σ e) = inl (sym (e ∙ ap (λ (x : Route). x ++ π) (scalar-alone σ π (subst (λ (x : Route). leads cs t x ≡ true) e lr) sp)))
      by_place (apart a) = inr a
