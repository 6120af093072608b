-- Elements of arrays: where a pointer stands that is moved within its array.
use Rattle.std.proofs.Common.{◌≡◌, ℕ, zero, suc, ◌+◌, ◌*◌, ◌≤◌, Bool, true, false, ◌&&◌, ◌||◌, nat_lt, nat_le, List, [], ◌∷◌, refl, subst, arith}
use Rattle.std.proofs.lemmas.Bool.Decides.{nat_tests}
use Rattle.cf_base.proofs.Tests.{both, all_of}
use Rattle.cf_core.specs.Types.{SourceType, array, const, plain, element}
use Rattle.cf_core.specs.Classes.{Class}
use Rattle.cf_core.specs.Core.{item, past, field, within}
use Rattle.cf_core.specs.Places.{Route, type_at, bound, is_inside}
use Rattle.cf_core.specs.Pointers.{element_of, route_of, lone_route, lone_bound, bound_of}
use Rattle.cf_core.specs.Size.{size}
use Rattle.cf_lower_layout.specs.Layout.{has_item, offset, leads, ends_item, is_lone, ends, points}
use Rattle.cf_lower_layout.proofs.Parts.{route-inside, size-plain}

-- an element of an array, or its end
abbrev up_to_end : SourceType → ℕ → Bool
up_to_end t i = has_item (plain t) i || ends_item (plain t) i

array-bound : (t : SourceType) (i : ℕ) → has_item t i || ends_item t i ≡ true → (j : ℕ) → nat_le j (bound t) ≡ true → has_item t j || ends_item t j ≡ true
array-bound (array t n) i h j le = grind (arith, nat_tests, le)
array-bound t i h j le = absurd (cc)

up_to-bound : (t : SourceType) (i : ℕ) → up_to_end t i ≡ true → (j : ℕ) → nat_le j (bound t) ≡ true → up_to_end t j ≡ true
up_to-bound (const t) i h j le = array-bound t i h j le
up_to-bound (array t n) i h j le = array-bound (array t n) i h j le
up_to-bound t i h j le = absurd (cc)

-- what is true of a part or of the end
pub points-item : (a b c : Bool) → (a && b) || (a && c) ≡ true → (a ≡ true) × (b || c ≡ true)
points-item true b c h = (refl, h)
points-item false b c h = absurd (cc)

item-points : (a b c : Bool) → a ≡ true → b || c ≡ true → (a && b) || (a && c) ≡ true
item-points true b c h k = k
item-points false b c h k = absurd (cc)

pub or-left : (a b : Bool) → a ≡ true → a || b ≡ true
or-left true b h = refl
or-left false b h = absurd (cc)

pub no-part : (a : Bool) → (a && false) || false ≡ true → ⊥
no-part true h = cc
no-part false h = cc

module _ (cs : List Class) (t : SourceType) where
  past-points : (π : Route) → leads cs t π ≡ true → is_lone π ≡ true → (i : ℕ) → points cs t (lone_route π i) ≡ true
  past-points π l lone zero = or-left (leads cs t π) (ends cs t π) l
  past-points π l lone (suc i) = item-points (leads cs t π) false (is_lone π) l lone

  -- a pointer that is moved within its array, or to its end, points to a part or an end
  pub moved-points : (π : Route) → points cs t π ≡ true → (i : ℕ) → nat_le i (bound_of cs t (element_of π)) ≡ true → points cs t (route_of (element_of π) i) ≡ true
  moved-points [] h i le = past-points [] refl refl i
  moved-points (item j ∷ π) h i le =
      let parts = points-item (leads cs t π) (has_item (plain (type_at cs t π)) j) (ends_item (plain (type_at cs t π)) j) h in
      item-points (leads cs t π) (has_item (plain (type_at cs t π)) i) (ends_item (plain (type_at cs t π)) i) parts.0
      (up_to-bound (type_at cs t π) j parts.1 i le)
  moved-points (past ∷ π) h i le =
      let parts = points-item (leads cs t π) false (is_lone π) h in
      past-points π parts.0 parts.1 i
  moved-points (field j ∷ π) h i le = absurd (no-part (leads cs t π) h)
  moved-points (within s ∷ π) h i le = absurd (no-part (leads cs t π) h)

  lone-offset : (π : Route) (i : ℕ) → nat_le i (lone_bound π) ≡ true → offset cs t (lone_route π i) ≡ offset cs t π + i * size cs (type_at cs t π)
  lone-offset π zero le = omega arith
  lone-offset π (suc zero) le = omega arith
  lone-offset π (suc (suc i)) le = absurd (too-far π le)
    where
      too-far : (π : Route) → nat_le (suc (suc i)) (lone_bound π) ≡ true → ⊥
      too-far [] le = grind (arith, nat_tests, le)
      too-far (item j ∷ π) le = grind (arith, nat_tests, le)
      too-far (past ∷ π) le = grind (arith, nat_tests, le)
      too-far (field j ∷ π) le = grind (arith, nat_tests, le)
      too-far (within s ∷ π) le = grind (arith, nat_tests, le)

  -- it stands so many elements behind the array's start
  pub moved-offset : (π : Route) (i : ℕ) → nat_le i (bound_of cs t (element_of π)) ≡ true
      → offset cs t (route_of (element_of π) i) ≡ offset cs t (element_of π).array + i * size cs (type_at cs t π)
  moved-offset [] i le = lone-offset [] i le
  moved-offset (item j ∷ π) i le = refl
  moved-offset (past ∷ π) i le = lone-offset π i le
  moved-offset (field j ∷ π) i le = lone-offset (field j ∷ π) i le
  moved-offset (within s ∷ π) i le = lone-offset (within s ∷ π) i le

  -- as the pointer itself does
  pub element-offset : (π : Route) → offset cs t π ≡ offset cs t (element_of π).array + (element_of π).index * size cs (type_at cs t π)
  element-offset [] = omega arith
  element-offset (item j ∷ π) = refl
  element-offset (past ∷ π) = omega arith
  element-offset (field j ∷ π) = omega arith
  element-offset (within s ∷ π) = omega arith

  moved-lone : (π : Route) (i : ℕ) → type_at cs t (lone_route π i) ≡ type_at cs t π
  moved-lone π zero = refl
  moved-lone π (suc i) = refl

  -- and points to the same type
  pub moved-type : (π : Route) (i : ℕ) → type_at cs t (route_of (element_of π) i) ≡ type_at cs t π
  moved-type [] i = moved-lone [] i
  moved-type (item j ∷ π) i = refl
  moved-type (past ∷ π) i = moved-lone π i
  moved-type (field j ∷ π) i = moved-lone (field j ∷ π) i
  moved-type (within s ∷ π) i = moved-lone (within s ∷ π) i

  end-inside : (u : SourceType) (i : ℕ) → ends_item u i ≡ true → i * size cs (element u) ≤ size cs u
  end-inside (array u n) i h = let e : i ≡ n = grind (arith, nat_tests, h) in subst (λ (m : ℕ). i * size cs u ≤ m * size cs u) e (omega arith)
  end-inside u i h = absurd (cc)

  ends-inside : (π : Route) → ends cs t π ≡ true → offset cs t π ≤ size cs t
  ends-inside [] h = absurd (cc)
  ends-inside (item i ∷ π) h =
      let parts = both (leads cs t π) (ends_item (plain (type_at cs t π)) i) h in
      let outer = route-inside cs t π parts.0 in
      let end = end-inside (plain (type_at cs t π)) i parts.1 in
      let same = size-plain cs (type_at cs t π) in
      omega (arith, outer, end, same)
  ends-inside (past ∷ π) h =
      let parts = both (leads cs t π) (is_lone π) h in
      route-inside cs t π parts.0
  ends-inside (field i ∷ π) h = absurd (cc)
  ends-inside (within s ∷ π) h = absurd (cc)

  -- a pointer stays within its object
  pub points-inside : (π : Route) → points cs t π ≡ true → offset cs t π ≤ size cs t
  points-inside π h = by_test (leads cs t π) refl h
    where
      by_test : (b : Bool) → leads cs t π ≡ b → b || ends cs t π ≡ true → offset cs t π ≤ size cs t
      by_test true l h = let r = route-inside cs t π l in omega (arith, r)
      by_test false l h = ends-inside π h

  -- ---- inside

  bound-inside : (u : SourceType) (i : ℕ) → ends_item u i ≡ true → nat_lt i (bound u) ≡ true → ⊥
  bound-inside (array u n) i h k = grind (arith, nat_tests, h, k)
  bound-inside u i h k = absurd (cc)

  end-outside : (u : SourceType) (i : ℕ) → ends_item (plain u) i ≡ true → nat_lt i (bound u) ≡ true → ⊥
  end-outside (const u) i h k = bound-inside u i h k
  end-outside (array u n) i h k = bound-inside (array u n) i h k
  end-outside u i h k = absurd (cc)

  -- where a pointer may point that isn't the end of an array, there is a part
  pub inside-leads : (π : Route) → points cs t π ≡ true → is_inside cs t π ≡ true → leads cs t π ≡ true
  inside-leads [] h k = refl
  inside-leads (item i ∷ π) h k =
      let parts = points-item (leads cs t π) (has_item (plain (type_at cs t π)) i) (ends_item (plain (type_at cs t π)) i) h in
      all_of (leads cs t π) (has_item (plain (type_at cs t π)) i) parts.0
      (item-there (has_item (plain (type_at cs t π)) i) (ends_item (plain (type_at cs t π)) i) parts.1
      (λ e. end-outside (type_at cs t π) i e (both (nat_lt i (bound (type_at cs t π))) (is_inside cs t π) k).0))
    where
      item-there : (a b : Bool) → a || b ≡ true → (b ≡ true → ⊥) → a ≡ true
      item-there true b e f = refl
      item-there false b e f = absurd (f e)
  inside-leads (past ∷ π) h k = absurd (cc)
  inside-leads (field j ∷ π) h k = absurd (no-part (leads cs t π) h)
  inside-leads (within s ∷ π) h k = absurd (no-part (leads cs t π) h)
