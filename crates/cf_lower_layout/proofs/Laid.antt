-- The parts of an object that is laid out are laid out.
use Rattle.std.proofs.Common.{◌≡◌, ◌*◌, ◌≤◌, Bool, true, false, not, ◌||◌, nat_lt, List, [], ◌∷◌, refl, ap, arith}
use Rattle.std.proofs.Math.Nat.{mul-le-mul_right}
use Rattle.std.proofs.lemmas.Bool.Decides.{nat_tests}
use Rattle.cf_base.proofs.Tests.{both}
use Rattle.cf_core.specs.Types.{SourceType, array, const, plain, element, is_array, without_const}
use Rattle.cf_core.specs.Classes.{Class}
use Rattle.cf_core.specs.Core.{item, past, field, within}
use Rattle.cf_core.specs.Places.{Route, type_at, is_const}
use Rattle.cf_core.specs.Size.{size, extent_with}
use Rattle.cf_core.specs.Size as sizes
use Rattle.cf_lower_layout.specs.Layout.{has_item, leads, ends, ends_item, is_lone, points, has_bytes, const_once, LaidOut}
use Rattle.cf_lower_layout.proofs.Parts.{leads-step, size-plain}

-- ---- elements

inner-bytes : (t : SourceType) → has_bytes t ≡ true → has_bytes (element t) ≡ true
inner-bytes (array t n) h = (both (nat_lt 0 n) (has_bytes t) h).1
inner-bytes t h = h

element-bytes : (t : SourceType) → has_bytes t ≡ true → has_bytes (element (plain t)) ≡ true
element-bytes (const t) h = inner-bytes t h
element-bytes t h = inner-bytes t h

inner-once : (t : SourceType) → const_once t ≡ true → const_once (element t) ≡ true
inner-once (array t n) h = h
inner-once t h = h

element-once : (t : SourceType) → const_once t ≡ true → const_once (element (plain t)) ≡ true
element-once (const t) h = inner-once t (both (not (is_const t)) (const_once t) h).1
element-once t h = inner-once t h

inner-size : (cs : List Class) (t : SourceType) → has_bytes t ≡ true → size cs (element t) ≤ size cs t
inner-size cs (array t n) h =
    let parts = both (nat_lt 0 n) (has_bytes t) h in
    let some : 1 ≤ n = grind (arith, nat_tests, parts.0) in
    let le : 1 * size cs t ≤ n * size cs t = mul-le-mul_right (size cs t) some in
    omega (arith, le)
inner-size cs t h = omega arith

plain-bytes : (t : SourceType) → has_bytes t ≡ true → has_bytes (plain t) ≡ true
plain-bytes (const t) h = h
plain-bytes t h = h

-- an element of an array that is laid out, or what an object that is none counts as the one element of
pub laid-element : (cs : List Class) (t : SourceType) → LaidOut cs t → LaidOut cs (element (plain t))
laid-element cs t l = record {
  small =
      let inner = inner-size cs (plain t) (plain-bytes t l.some) in
      let same = size-plain cs t in
      let small = l.small in
      omega (arith, inner, same, small);
  some = element-bytes t l.some;
  once = element-once t l.once;
}

-- ---- routes

module _ (cs : List Class) (t : SourceType) (laid : LaidOut cs t) where
  pub laid-part : (π : Route) → leads cs t π ≡ true → LaidOut cs (type_at cs t π)
  laid-part [] h = laid
  laid-part (item i ∷ π) h = laid-element cs (type_at cs t π) (laid-part π (leads-step cs t (item i) π h).0)
  laid-part (past ∷ π) h = absurd (false-true (leads-step cs t past π h).1)
    where
      false-true : false ≡ true → ⊥
      false-true q = absurd (cc)
  laid-part (field i ∷ π) h = absurd (false-true (leads-step cs t (field i) π h).1)
    where
      false-true : false ≡ true → ⊥
      false-true q = absurd (cc)
  laid-part (within s ∷ π) h = absurd (false-true (leads-step cs t (within s) π h).1)
    where
      false-true : false ≡ true → ⊥
      false-true q = absurd (cc)

  laid-end : (π : Route) → ends cs t π ≡ true → LaidOut cs (type_at cs t π)
  laid-end [] h = absurd (cc)
  laid-end (item i ∷ π) h = laid-element cs (type_at cs t π) (laid-part π (both (leads cs t π) (ends_item (plain (type_at cs t π)) i) h).0)
  laid-end (past ∷ π) h = laid-part π (both (leads cs t π) (is_lone π) h).0
  laid-end (field i ∷ π) h = absurd (cc)
  laid-end (within s ∷ π) h = absurd (cc)

  -- where a pointer may point, an object would be laid out
  pub laid-at : (π : Route) → points cs t π ≡ true → LaidOut cs (type_at cs t π)
  laid-at π h = by_test (leads cs t π) refl h
    where
      by_test : (b : Bool) → leads cs t π ≡ b → b || ends cs t π ≡ true → LaidOut cs (type_at cs t π)
      by_test true l h = laid-part π l
      by_test false l h = laid-end π h

-- ---- the first element

inner-first : (t : SourceType) → is_array t ≡ true → is_const t ≡ false → has_bytes t ≡ true → has_item t 0 ≡ true
inner-first (array t n) a c h = (both (nat_lt 0 n) (has_bytes t) h).0
inner-first (const t) a c h = absurd (cc)
inner-first t a c h = absurd (cc)

not-true : (b : Bool) → not b ≡ true → b ≡ false
not-true true h = absurd (cc)
not-true false h = refl

-- an array that is laid out has a first element
pub has-first : (t : SourceType) → is_array t ≡ true → has_bytes t ≡ true → const_once t ≡ true → has_item (plain t) 0 ≡ true
has-first (const t) a h o = inner-first t a (not-true (is_const t) (both (not (is_const t)) (const_once t) o).0) h
has-first (array t n) a h o = inner-first (array t n) a refl h
has-first t a h o = absurd (cc)

inner-without : (t : SourceType) → is_const t ≡ false → without_const (element t) ≡ element (without_const t)
inner-without (array t n) c = refl
inner-without (const t) c = absurd (cc)
inner-without t c = refl

-- the type of an array's elements, const being left out
pub element-without : (t : SourceType) → const_once t ≡ true → without_const (element (plain t)) ≡ element (without_const t)
element-without (const t) o = inner-without t (not-true (is_const t) (both (not (is_const t)) (const_once t) o).0)
element-without (array t n) o = refl
element-without t o = refl

-- ---- const takes no bytes

extent-without : (whole : _) (t : SourceType) → extent_with whole (without_const t) ≡ extent_with whole t
extent-without whole (array t n) = ap (λ (e : sizes.Extent). record e { size = n * e.size }) (extent-without whole t)
extent-without whole (const t) = extent-without whole t
extent-without whole t = refl

pub size-without : (cs : List Class) (t : SourceType) → size cs (without_const t) ≡ size cs t
size-without cs t = ap (λ (e : sizes.Extent). e.size) (extent-without _ t)
