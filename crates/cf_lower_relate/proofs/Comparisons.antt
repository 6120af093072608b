-- Pointers are compared and subtracted by their blocks and offsets.
use Rattle.std.proofs.Common.{◌≡◌, ℕ, ◌+◌, ◌*◌, ◌≤◌, ◌<◌, Bool, true, false, not, ◌&&◌, ◌||◌, ◌==◌, refl, sym, ◌∙◌, ap, arith}
use Rattle.std.proofs.lemmas.Bool.Decides.{nat_tests}
use Rattle.std.proofs.Math.Nat.{mul-le-mul_right}
use Rattle.cf_base.proofs.Tests.{both}
use Rattle.cf_core.specs.Places.{Place, type_at, route_eq, place_eq, is_inside, is_beyond}
use Rattle.cf_core.specs.Pointers.{element_of, bound_of, same_array, is_end, in_array, comparable}
use Rattle.cf_core.specs.Run.{State}
use Rattle.cf_core.specs.Size.{size}
use Rattle.cf_lower_layout.specs.Layout.{offset, points}
use Rattle.cf_lower_layout.proofs.Elements.{element-offset}
use Rattle.cf_lower_layout.proofs.Laid.{laid-at}
use Rattle.cf_lower_layout.proofs.Order.{in-array, index-below, bound-inside, places-differ}
use Rattle.cf_lower_layout.proofs.Parts.{same-route}
use Rattle.cf_lower_layout.proofs.Sizes.{size-some}
use Rattle.cc_whole_memory.specs.Blocks.{Memory}
use Rattle.cc_whole_memory.specs.Pointers.{same_pointer}
use Rattle.cf_lower_relate.specs.Map.{Fixed, Map, is_ended, offset_of, pointer_to, type_of_place}
use Rattle.cf_lower_relate.specs.Relation.{Rel}

-- ---- tests

or-rest : (a b : Bool) → a || b ≡ true → a ≡ false → b ≡ true
or-rest true b h e = absurd (cc)
or-rest false b h e = h

not-both : (a b : Bool) → not (a && b) ≡ true → a ≡ true → b ≡ true → ⊥
not-both true b h e f = absurd (cc)
not-both false b h e f = absurd (cc)

or-not : (a b : Bool) → not a || b ≡ true → a ≡ true → b ≡ true
or-not true b h e = h
or-not false b h e = absurd (cc)

not-three : (a b c : Bool) → not (not a && b && c) ≡ true → a ≡ false → b ≡ true → c ≡ true → ⊥
not-three true b c h e f g = absurd (cc)
not-three false true c h e f g = absurd (cc)
not-three false false c h e f g = absurd (cc)

number-same : (i j : ℕ) → i ≡ j → i == j ≡ true
number-same i j e = grind (arith, nat_tests, e)

same-number : (i j : ℕ) → i == j ≡ true → i ≡ j
same-number i j e = grind (arith, nat_tests, e)

differ : (i j : ℕ) → (i ≡ j → ⊥) → i == j ≡ false
differ i j f = by_test (i == j) refl
  where
    by_test : (b : Bool) → i == j ≡ b → i == j ≡ false
    by_test false e = e
    by_test true e = absurd (f (same-number i j e))

module _ (K : Fixed) (F : Map) (s : State) (m : Memory) (r : Rel K F s m) where
  -- a pointer whose object stands
  pub record Standing (p : Place) : Type 0 where
    pub known : p.object < F.count
    pub live : is_ended (F.stage p.object) ≡ false
    pub inside : points K.classes (F.type p.object) p.route ≡ true

  module _ (p q : Place) (sp : Standing p) (sq : Standing q) where
    -- ---- in one object

    module _ (same : p.object ≡ q.object) (c : comparable K.classes s p q ≡ true) (ne : place_eq p q ≡ false) where
      ends-of : (o : Place) → o.object < F.count → is_inside K.classes (F.type o.object) o.route ≡ false → is_end K.classes s o ≡ true
      ends-of o lt h = ap (λ u. not (is_inside K.classes u o.route)) (r.type o.object lt) ∙ ap not h

      ends-not : (o : Place) → o.object < F.count → is_inside K.classes (F.type o.object) o.route ≡ true → is_end K.classes s o ≡ false
      ends-not o lt h = ap (λ u. not (is_inside K.classes u o.route)) (r.type o.object lt) ∙ ap not h

      there : is_inside K.classes (F.type q.object) q.route ≡ is_inside K.classes (F.type p.object) q.route
      there = ap (λ o. is_inside K.classes (F.type o) q.route) (sym same)

      offsets-differ : offset_of K F p ≡ offset_of K F q → ⊥
      offsets-differ e =
          let fourth = both (not (is_end K.classes s p && is_end K.classes s q) && (not (is_end K.classes s p) || in_array q p) && (not (is_end K.classes s q) || in_array p q) && not (not (is_end K.classes s p) && (p.object == q.object) && is_beyond p.route q.route)) (not (not (is_end K.classes s q) && (q.object == p.object) && is_beyond q.route p.route)) (or-rest (place_eq p q) (not (is_end K.classes s p && is_end K.classes s q) && (not (is_end K.classes s p) || in_array q p) && (not (is_end K.classes s q) || in_array p q) && not (not (is_end K.classes s p) && (p.object == q.object) && is_beyond p.route q.route) && not (not (is_end K.classes s q) && (q.object == p.object) && is_beyond q.route p.route)) c ne) in
          let third = both (not (is_end K.classes s p && is_end K.classes s q) && (not (is_end K.classes s p) || in_array q p) && (not (is_end K.classes s q) || in_array p q)) (not (not (is_end K.classes s p) && (p.object == q.object) && is_beyond p.route q.route)) fourth.0 in
          let second = both (not (is_end K.classes s p && is_end K.classes s q) && (not (is_end K.classes s p) || in_array q p)) (not (is_end K.classes s q) || in_array p q) third.0 in
          let first = both (not (is_end K.classes s p && is_end K.classes s q)) (not (is_end K.classes s p) || in_array q p) second.0 in
          places-differ K.classes (F.type p.object) (r.laid p.object sp.known) p.route q.route sp.inside
          (ap (λ o. points K.classes (F.type o) q.route) same ∙ sq.inside)
          (λ i j. not-both (is_end K.classes s p) (is_end K.classes s q) first.0 (ends-of p sp.known i) (ends-of q sq.known (there ∙ j)))
          (λ i. (both (q.object == p.object) _ (or-not (is_end K.classes s p) (in_array q p) first.1 (ends-of p sp.known i))).1)
          (λ j. (both (p.object == q.object) _ (or-not (is_end K.classes s q) (in_array p q) second.1 (ends-of q sq.known (there ∙ j)))).1)
          (λ i b. not-three (is_end K.classes s p) (p.object == q.object) (is_beyond p.route q.route) third.1 (ends-not p sp.known i)
          (number-same p.object q.object same) b)
          (λ j b. not-three (is_end K.classes s q) (q.object == p.object) (is_beyond q.route p.route) fourth.1 (ends-not q sq.known (there ∙ j))
          (number-same q.object p.object (sym same)) b)
          (let at_q : offset_of K F q ≡ F.base p.object + offset K.classes (F.type p.object) q.route =
          ap (λ o. F.base o + offset K.classes (F.type o) q.route) (sym same) in
          omega (arith, e, at_q))

    -- ---- two pointers are equal where their places are

    pub same-pointers : comparable K.classes s p q ≡ true → same_pointer (pointer_to K F p) (pointer_to K F q) ≡ place_eq p q
    same-pointers c = by_object (p.object == q.object) refl
      where
        by_place : p.object ≡ q.object → (b : Bool) → place_eq p q ≡ b → same_pointer (pointer_to K F p) (pointer_to K F q) ≡ b
        by_place same true e =
            let routes = same-route p.route q.route (both (p.object == q.object) (route_eq p.route q.route) e).1 in
            let offsets : offset_of K F p ≡ offset_of K F q =
            ap (λ o. F.base o + offset K.classes (F.type o) p.route) same ∙ ap (λ ρ. F.base q.object + offset K.classes (F.type q.object) ρ) routes in
            ap (λ t. t && (offset_of K F p == offset_of K F q)) (number-same (F.block p.object) (F.block q.object) (ap F.block same))
            ∙ number-same (offset_of K F p) (offset_of K F q) offsets
        by_place same false e =
            ap (λ t. t && (offset_of K F p == offset_of K F q)) (number-same (F.block p.object) (F.block q.object) (ap F.block same))
            ∙ differ (offset_of K F p) (offset_of K F q) (offsets-differ same c e)

        by_object : (b : Bool) → p.object == q.object ≡ b → same_pointer (pointer_to K F p) (pointer_to K F q) ≡ place_eq p q
        by_object true e = by_place (same-number p.object q.object e) (place_eq p q) refl
        by_object false e =
            ap (λ t. t && (offset_of K F p == offset_of K F q))
            (differ (F.block p.object) (F.block q.object) (λ k. false-true (sym e ∙ number-same p.object q.object (r.apart p.object q.object sp.known sq.known sp.live sq.live k))))
            ∙ sym (ap (λ t. t && route_eq p.route q.route) e)
          where
            false-true : false ≡ true → ⊥
            false-true k = absurd (cc)

    -- ---- elements of one array

    -- where two elements of one array stand: so many elements of so many bytes behind its start
    pub record Elements : Type 0 where
      pub start : ℕ
      pub block : F.block p.object ≡ F.block q.object
      pub type : type_of_place K F p ≡ type_of_place K F q
      pub some : 0 < size K.classes (type_of_place K F p)
      pub first : offset_of K F p ≡ start + (element_of p.route).index * size K.classes (type_of_place K F p)
      pub second : offset_of K F q ≡ start + (element_of q.route).index * size K.classes (type_of_place K F p)
      pub first_fits : (element_of p.route).index * size K.classes (type_of_place K F p) ≤ 4194304
      pub second_fits : (element_of q.route).index * size K.classes (type_of_place K F p) ≤ 4194304

    pub elements : same_array p q ≡ true → Elements
    elements h =
        let same = same-number p.object q.object (both (p.object == q.object) _ h).0 in
        let shared = in-array K.classes (F.type p.object) p.object q.object p.route q.route h in
        let there : points K.classes (F.type p.object) q.route ≡ true = ap (λ o. points K.classes (F.type o) q.route) same ∙ sq.inside in
        let one = element-offset K.classes (F.type p.object) p.route in
        let two = element-offset K.classes (F.type p.object) q.route in
        let at_q : offset_of K F q ≡ F.base p.object + offset K.classes (F.type p.object) q.route = ap (λ o. F.base o + offset K.classes (F.type o) q.route) (sym same) in
        let start = shared.start in
        let bytes : (element_of q.route).index * size K.classes (type_at K.classes (F.type p.object) q.route)
        ≡ (element_of q.route).index * size K.classes (type_of_place K F p) =
        ap (λ u. (element_of q.route).index * size K.classes u) (sym shared.type) in
        let small = (r.laid p.object sp.known).small in
        record {
          start = F.base p.object + offset K.classes (F.type p.object) (element_of p.route).array;
          block = ap F.block same;
          type = shared.type ∙ ap (λ o. type_at K.classes (F.type o) q.route) same;
          some = size-some K.classes (type_of_place K F p) (laid-at K.classes (F.type p.object) (r.laid p.object sp.known) p.route sp.inside).some;
          first = omega (arith, one);
          second = omega (arith, two, at_q, start, bytes);
          first_fits =
              let le = index-below K.classes (F.type p.object) p.route sp.inside in
              let product : (element_of p.route).index * size K.classes (type_of_place K F p)
              ≤ bound_of K.classes (F.type p.object) (element_of p.route) * size K.classes (type_of_place K F p) = mul-le-mul_right (size K.classes (type_of_place K F p)) le in
              let whole = bound-inside K.classes (F.type p.object) p.route sp.inside in
              omega (arith, product, whole, small);
          second_fits =
              let le = index-below K.classes (F.type p.object) q.route there in
              let product : (element_of q.route).index * size K.classes (type_at K.classes (F.type p.object) q.route)
              ≤ bound_of K.classes (F.type p.object) (element_of q.route) * size K.classes (type_at K.classes (F.type p.object) q.route) =
              mul-le-mul_right (size K.classes (type_at K.classes (F.type p.object) q.route)) le in
              let whole = bound-inside K.classes (F.type p.object) q.route there in
              omega (arith, product, whole, small, bytes);
        }
