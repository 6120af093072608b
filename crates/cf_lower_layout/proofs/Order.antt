-- Where two places of one object lie: elements of one array by their numbers, places that may be compared at different bytes.
use Rattle.std.proofs.Common.{◌≡◌, ℕ, ◌+◌, ◌*◌, ◌≤◌, ◌<◌, Bool, true, false, ◌&&◌, ◌||◌, ◌==◌, nat_lt, List, [], ◌∷◌, ◌++◌, refl, sym, ◌∙◌, ap, subst, arith, inl, inr}
use Rattle.std.proofs.lemmas.Bool.Decides.{nat_tests}
use Rattle.cf_base.proofs.Tests.{both, all_of}
use Rattle.cf_core.specs.Types.{SourceType, array, const, plain, element}
use Rattle.cf_core.specs.Classes.{Class}
use Rattle.cf_core.specs.Core.{item, past, field, within}
use Rattle.cf_core.specs.Places.{Route, type_at, bound, is_inside, is_beyond, route_eq}
use Rattle.cf_core.specs.Pointers.{element_of, lone_bound, bound_of, same_array}
use Rattle.cf_core.specs.Size.{size}
use Rattle.cf_lower_layout.specs.Layout.{has_item, offset, leads, ends_item, is_lone, ends, points, LaidOut}
use Rattle.cf_lower_layout.proofs.Elements.{points-item, no-part, inside-leads}
use Rattle.cf_lower_layout.proofs.Laid.{laid-part}
use Rattle.cf_lower_layout.proofs.Parts.{Placed, lies_in, holds, apart, placed, front-inside, leads-step, route-inside, route-self, same-route, size-plain}
use Rattle.cf_lower_layout.proofs.Sizes.{size-some}

or-true : (a b : Bool) → b ≡ true → a || b ≡ true
or-true true b h = refl
or-true false b h = h

or-first : (a b : Bool) → a ≡ true → a || b ≡ true
or-first true b h = refl
or-first false b h = absurd (cc)

-- ---- elements of one array

never : (a b : Bool) → a && (b && false) ≡ true → ⊥
never true true h = absurd (cc)
never true false h = absurd (cc)
never false b h = absurd (cc)

same-lone : (o n : ℕ) (π ρ : Route) → same_array (record { object = o; route = π }) (record { object = n; route = ρ }) ≡ true
    → (element_of π).is_lone ≡ (element_of ρ).is_lone
same-lone o n (item i ∷ π) (item j ∷ ρ) h = refl
same-lone o n (item i ∷ π) [] h = absurd (never (o == n) _ h)
same-lone o n (item i ∷ π) (past ∷ ρ) h = absurd (never (o == n) _ h)
same-lone o n (item i ∷ π) (field j ∷ ρ) h = absurd (never (o == n) _ h)
same-lone o n (item i ∷ π) (within s ∷ ρ) h = absurd (never (o == n) _ h)
same-lone o n [] (item j ∷ ρ) h = absurd (never (o == n) _ h)
same-lone o n (past ∷ π) (item j ∷ ρ) h = absurd (never (o == n) _ h)
same-lone o n (field i ∷ π) (item j ∷ ρ) h = absurd (never (o == n) _ h)
same-lone o n (within r ∷ π) (item j ∷ ρ) h = absurd (never (o == n) _ h)
same-lone o n π ρ h = refl

abbrev of_array : Bool → SourceType → SourceType
of_array true u = u
of_array false u = element (plain u)

-- what two elements of one array share, or two ends
pub record InArray (cs : List Class) (t : SourceType) (π ρ : Route) : Type 0 where
  pub start : offset cs t (element_of π).array ≡ offset cs t (element_of ρ).array
  pub type : type_at cs t π ≡ type_at cs t ρ

module _ (cs : List Class) (t : SourceType) where
  type-in : (π : Route) → type_at cs t π ≡ of_array (element_of π).is_lone (type_at cs t (element_of π).array)
  type-in [] = refl
  type-in (item i ∷ π) = refl
  type-in (past ∷ π) = refl
  type-in (field i ∷ π) = refl
  type-in (within s ∷ π) = refl

  pub in-array : (o n : ℕ) (π ρ : Route) → same_array (record { object = o; route = π }) (record { object = n; route = ρ }) ≡ true → InArray cs t π ρ
  in-array o n π ρ h =
      let routes : (element_of π).array ≡ (element_of ρ).array =
      same-route (element_of π).array (element_of ρ).array (both (route_eq (element_of π).array (element_of ρ).array) _ (both (o == n) _ h).1).0 in
      record {
        start = ap (offset cs t) routes;
        type = type-in π ∙ ap (λ b. of_array b (type_at cs t (element_of π).array)) (same-lone o n π ρ h)
            ∙ ap (λ r. of_array (element_of ρ).is_lone (type_at cs t r)) routes ∙ sym (type-in ρ);
      }

-- ---- numbers of elements

bound-item : (u : SourceType) (i : ℕ) → has_item u i || ends_item u i ≡ true → i ≤ bound u
bound-item (array u n) i h = grind (arith, nat_tests, h)
bound-item u i h = absurd (cc)

up_to-bound : (u : SourceType) (i : ℕ) → has_item (plain u) i || ends_item (plain u) i ≡ true → i ≤ bound u
up_to-bound (const u) i h = bound-item u i h
up_to-bound (array u n) i h = bound-item (array u n) i h
up_to-bound u i h = absurd (cc)

array-size : (cs : List Class) (u : SourceType) (i : ℕ) → has_item u i || ends_item u i ≡ true → bound u * size cs (element u) ≤ size cs u
array-size cs (array u n) i h = omega arith
array-size cs u i h = absurd (cc)

whole-size : (cs : List Class) (u : SourceType) (i : ℕ) → has_item (plain u) i || ends_item (plain u) i ≡ true → bound u * size cs (element (plain u)) ≤ size cs u
whole-size cs (const u) i h = array-size cs u i h
whole-size cs (array u n) i h = array-size cs (array u n) i h
whole-size cs u i h = absurd (cc)

lone-one : (π : Route) → is_lone π ≡ true → 1 ≤ lone_bound π
lone-one [] h = omega arith
lone-one (field i ∷ π) h = omega arith
lone-one π h = absurd (cc)

lone-most : (π : Route) (n : ℕ) → lone_bound π * n ≤ n
lone-most [] n = omega arith
lone-most (item i ∷ π) n = omega arith
lone-most (past ∷ π) n = omega arith
lone-most (field i ∷ π) n = omega arith
lone-most (within s ∷ π) n = omega arith

module _ (cs : List Class) (t : SourceType) where
  -- a pointer's number is at most the bound
  pub index-below : (π : Route) → points cs t π ≡ true → (element_of π).index ≤ bound_of cs t (element_of π)
  index-below [] h = omega arith
  index-below (item i ∷ π) h =
      up_to-bound (type_at cs t π) i (points-item (leads cs t π) (has_item (plain (type_at cs t π)) i) (ends_item (plain (type_at cs t π)) i) h).1
  index-below (past ∷ π) h = lone-one π (points-item (leads cs t π) false (is_lone π) h).1
  index-below (field i ∷ π) h = absurd (no-part (leads cs t π) h)
  index-below (within s ∷ π) h = absurd (no-part (leads cs t π) h)

  -- an array lies in its object
  pub bound-inside : (π : Route) → points cs t π ≡ true → bound_of cs t (element_of π) * size cs (type_at cs t π) ≤ size cs t
  bound-inside [] h = omega arith
  bound-inside (item i ∷ π) h =
      let parts = points-item (leads cs t π) (has_item (plain (type_at cs t π)) i) (ends_item (plain (type_at cs t π)) i) h in
      let inner = whole-size cs (type_at cs t π) i parts.1 in
      let outer = route-inside cs t π parts.0 in
      omega (arith, inner, outer)
  bound-inside (past ∷ π) h =
      let outer = route-inside cs t π (points-item (leads cs t π) false (is_lone π) h).0 in
      let most = lone-most π (size cs (type_at cs t π)) in
      omega (arith, outer, most)
  bound-inside (field i ∷ π) h = absurd (no-part (leads cs t π) h)
  bound-inside (within s ∷ π) h = absurd (no-part (leads cs t π) h)

-- ---- what lies in what

beyond-self : (ρ : Route) → is_beyond ρ ρ ≡ true
beyond-self [] = refl
beyond-self (s ∷ ρ) = or-first (route_eq (s ∷ ρ) (s ∷ ρ)) (is_beyond ρ (s ∷ ρ)) (route-self (s ∷ ρ))

beyond-front : (σ ρ : Route) → is_beyond (σ ++ ρ) ρ ≡ true
beyond-front [] ρ = beyond-self ρ
beyond-front (s ∷ σ) ρ = or-true (route_eq (s ∷ σ ++ ρ) ρ) (is_beyond (σ ++ ρ) ρ) (beyond-front σ ρ)

record Front (π ρ : Route) : Type 0 where
  front : Route
  is : π ≡ front ++ ρ

front-of : (π ρ : Route) → is_beyond π ρ ≡ true → Front π ρ
front-of [] ρ h = record { front = []; is = same-route [] ρ h }
front-of (s ∷ π) ρ h = by_test (route_eq (s ∷ π) ρ) refl h (λ k. front-of π ρ k)
  where
    by_test : (b : Bool) → route_eq (s ∷ π) ρ ≡ b → b || is_beyond π ρ ≡ true → (is_beyond π ρ ≡ true → Front π ρ) → Front (s ∷ π) ρ
    by_test true e h go = record { front = []; is = same-route (s ∷ π) ρ e }
    by_test false e h go = let f = go h in record { front = s ∷ f.front; is = ap (λ (x : Route). s ∷ x) f.is }

inner-bound : (u : SourceType) (i : ℕ) → has_item u i ≡ true → nat_lt i (bound u) ≡ true
inner-bound (array u n) i h = h
inner-bound u i h = absurd (cc)

item-bound : (u : SourceType) (i : ℕ) → has_item (plain u) i ≡ true → nat_lt i (bound u) ≡ true
item-bound (const u) i h = inner-bound u i h
item-bound (array u n) i h = h
item-bound u i h = absurd (cc)

end-size : (cs : List Class) (u : SourceType) (i : ℕ) → ends_item u i ≡ true → size cs u ≤ i * size cs (element u)
end-size cs (array u n) i h = let e : n ≡ i = grind (arith, nat_tests, h) in subst (λ (m : ℕ). n * size cs u ≤ m * size cs u) e (omega arith)
end-size cs u i h = absurd (cc)

module _ (cs : List Class) (t : SourceType) where
  pub leads-inside : (π : Route) → leads cs t π ≡ true → is_inside cs t π ≡ true
  leads-inside [] h = refl
  leads-inside (item i ∷ π) h =
      let parts = leads-step cs t (item i) π h in
      all_of (nat_lt i (bound (type_at cs t π))) (is_inside cs t π) (item-bound (type_at cs t π) i parts.1) (leads-inside π parts.0)
  leads-inside (past ∷ π) h = absurd (no (leads-step cs t past π h).1)
    where
      no : false ≡ true → ⊥
      no q = absurd (cc)
  leads-inside (field i ∷ π) h = absurd (no (leads-step cs t (field i) π h).1)
    where
      no : false ≡ true → ⊥
      no q = absurd (cc)
  leads-inside (within s ∷ π) h = absurd (no (leads-step cs t (within s) π h).1)
    where
      no : false ≡ true → ⊥
      no q = absurd (cc)

  -- a pointer that is not inside is an end
  outside-ends : (π : Route) → points cs t π ≡ true → is_inside cs t π ≡ false → ends cs t π ≡ true
  outside-ends π h out = by_test (leads cs t π) refl h
    where
      both_ways : {b : Bool} → b ≡ true → b ≡ false → ⊥
      both_ways a c = absurd (cc)

      by_test : (b : Bool) → leads cs t π ≡ b → b || ends cs t π ≡ true → ends cs t π ≡ true
      by_test true l e = absurd (both_ways (leads-inside π l) out)
      by_test false l e = e

  module _ (laid : LaidOut cs t) where
    bytes : (π : Route) → leads cs t π ≡ true → 0 < size cs (type_at cs t π)
    bytes π l = size-some cs (type_at cs t π) (laid-part cs t laid π l).some

    -- a part of an array lies before its end
    before-end : (ρ array_route : Route) → leads cs t ρ ≡ true → Front ρ array_route → (n : ℕ)
        → offset cs t array_route + size cs (type_at cs t array_route) ≤ n → offset cs t ρ < n
    before-end ρ a l f n le =
        let within = front-inside cs t f.front a (subst (λ (x : Route). leads cs t x ≡ true) f.is l) in
        let end : offset cs t ρ + size cs (type_at cs t ρ) ≤ offset cs t a + size cs (type_at cs t a) =
        subst (λ (x : Route). offset cs t x + size cs (type_at cs t x) ≤ offset cs t a + size cs (type_at cs t a)) (sym f.is) within.end in
        let some = bytes ρ l in
        omega (arith, end, some, le)

    end-behind : (π ρ : Route) → ends cs t π ≡ true → leads cs t ρ ≡ true → is_beyond ρ (element_of π).array ≡ true → offset cs t ρ < offset cs t π
    end-behind [] ρ e l b = absurd (cc)
    end-behind (item i ∷ π) ρ e l b =
        let parts = both (leads cs t π) (ends_item (plain (type_at cs t π)) i) e in
        let end = end-size cs (plain (type_at cs t π)) i parts.1 in
        let same = size-plain cs (type_at cs t π) in
        before-end ρ π l (front-of ρ π b) (offset cs t π + i * size cs (element (plain (type_at cs t π)))) (omega (arith, end, same))
    end-behind (past ∷ π) ρ e l b = before-end ρ π l (front-of ρ π b) (offset cs t π + size cs (type_at cs t π)) (omega arith)
    end-behind (field i ∷ π) ρ e l b = absurd (cc)
    end-behind (within s ∷ π) ρ e l b = absurd (cc)

    parts-differ : (π ρ : Route) → leads cs t π ≡ true → leads cs t ρ ≡ true → (is_beyond π ρ ≡ true → ⊥) → (is_beyond ρ π ≡ true → ⊥)
        → offset cs t π ≡ offset cs t ρ → ⊥
    parts-differ π ρ lp lr no_in no_out same = by_place (placed cs t π ρ lp lr)
      where
        by_place : Placed cs t π ρ → ⊥
        by_place (lies_in σ e) = no_in (subst (λ (x : Route). is_beyond x ρ ≡ true) (sym e) (beyond-front σ ρ))
        by_place (holds σ e) = no_out (subst (λ (x : Route). is_beyond x π ≡ true) (sym e) (beyond-front σ π))
        by_place (apart (inl le)) = let some = bytes π lp in omega (arith, le, same, some)
        by_place (apart (inr le)) = let some = bytes ρ lr in omega (arith, le, same, some)

    -- Two pointers into one object that may be compared, and differ, point to different bytes.
    pub places-differ : (π ρ : Route) → points cs t π ≡ true → points cs t ρ ≡ true
        → (is_inside cs t π ≡ false → is_inside cs t ρ ≡ false → ⊥)
        → (is_inside cs t π ≡ false → is_beyond ρ (element_of π).array ≡ true)
        → (is_inside cs t ρ ≡ false → is_beyond π (element_of ρ).array ≡ true)
        → (is_inside cs t π ≡ true → is_beyond π ρ ≡ true → ⊥)
        → (is_inside cs t ρ ≡ true → is_beyond ρ π ≡ true → ⊥)
        → offset cs t π ≡ offset cs t ρ → ⊥
    places-differ π ρ pp pr ends_both end_first end_second no_in no_out same = by_tests (is_inside cs t π) (is_inside cs t ρ) refl refl
      where
        by_tests : (a b : Bool) → is_inside cs t π ≡ a → is_inside cs t ρ ≡ b → ⊥
        by_tests true true i j = parts-differ π ρ (inside-leads cs t π pp i) (inside-leads cs t ρ pr j) (no_in i) (no_out j) same
        by_tests true false i j = let lt = end-behind ρ π (outside-ends ρ pr j) (inside-leads cs t π pp i) (end_second j) in omega (arith, lt, same)
        by_tests false true i j = let lt = end-behind π ρ (outside-ends π pp i) (inside-leads cs t ρ pr j) (end_first i) in omega (arith, lt, same)
        by_tests false false i j = ends_both i j
