-- Pointers are moved, subtracted and compared by their offsets.
use Rattle.std.proofs.Common.{◌≡◌, ℕ, zero, suc, ◌+◌, ◌-◌, ◌*◌, ◌≤◌, ◌<◌, nat_le, nat_lt, Bool, true, false, if◌then◌else◌, Option, Some, None, Ok, Err, ℤ, pos, negsuc, neg_ℤ, ◌+ℤ◌, ◌-ℤ◌, ◌*ℤ◌, refl, sym, ◌∙◌, ap, subst, arith, ◌⊎◌}
use Rattle.std.proofs.Math.Nat.{add-mul}
use Rattle.std.proofs.lemmas.Bool.Decides.{nat_tests}
use Rattle.cf_core.specs.Types.{SourceType, void, without_const}
use Rattle.cf_core.specs.Places.{Place}
use Rattle.cf_core.specs.Pointers.{element_of, route_of, bound_of, further}
use Rattle.cf_core.specs.Run.{State}
use Rattle.cf_core.specs.Size.{size}
use Rattle.cf_lower_layout.specs.Layout.{offset, points}
use Rattle.cf_lower_layout.proofs.Elements.{moved-points, moved-offset, moved-type, element-offset, points-inside}
use Rattle.cc_whole_memory.specs.declared.value.Value.{Value}
use Rattle.cc_whole_memory.specs.declared.value.Value.TheVariants as value
use Rattle.cc_whole_memory.specs.Blocks as blocks
use Rattle.cc_whole_memory.specs.Blocks.{Block, Memory}
use Rattle.cc_whole_memory.specs.Pointers.{in_range, moved_in, moved, moved_back}
use Rattle.cf_lower_relate.specs.Map.{Fixed, Map, is_ended, offset_of, pointer_to, type_of_place, PointsTo}
use Rattle.cf_lower_relate.specs.Relation.{Stands, Rel}

-- ---- numbers

pub less : (q p m : ℕ) → q ≡ p + m → pos q +ℤ neg_ℤ (pos m) ≡ pos p
less q p zero e = ap pos (let h : q + 0 ≡ p = omega (arith, e) in h)
less q p (suc m) e =
    ap (λ b. if b then negsuc (suc m - suc q) else pos (q - suc m)) (let t : nat_lt q (suc m) ≡ false = grind (arith, nat_tests, e) in t)
    ∙ ap pos (let h : q - suc m ≡ p = omega (arith, e) in h)

pub some-same : {i j : ℕ} → Some i ≡ Some j → i ≡ j
some-same e = cc

-- elements of n bytes: so many further is so many bytes further
pub further-bytes : (j i n : ℕ) (z : ℤ) (a : ℕ) → further j z ≡ Some i → pos (a + j * n) +ℤ (z *ℤ pos n) ≡ pos (a + i * n)
further-bytes j i n (pos k) a e =
    let is : j + k ≡ i = some-same e in
    let sum = add-mul j k n in
    ap pos (let h : a + j * n + k * n ≡ a + (j + k) * n = omega (arith, sum) in h ∙ ap (λ m. a + m * n) is)
further-bytes j i n (negsuc k) a e = by_test (nat_le (suc k) j) refl e
  where
    by_test : (b : Bool) → nat_le (suc k) j ≡ b → (elim b as (λ c. Option ℕ) [ true ↦ Some (j - suc k) | false ↦ None ]) ≡ Some i
        → pos (a + j * n) +ℤ neg_ℤ (pos (suc k * n)) ≡ pos (a + i * n)
    by_test true t e =
        let is : j - suc k ≡ i = some-same e in
        let whole : j ≡ i + suc k = grind (arith, nat_tests, t, is) in
        let sum = add-mul i (suc k) n in
        less (a + j * n) (a + i * n) (suc k * n) (let h : a + (i + suc k) * n ≡ a + i * n + suc k * n = omega (arith, sum) in ap (λ m. a + m * n) whole ∙ h)
    by_test false t e = absurd (cc)

neg-neg : (z : ℤ) → neg_ℤ (neg_ℤ z) ≡ z
neg-neg (pos zero) = refl
neg-neg (pos (suc n)) = refl
neg-neg (negsuc n) = refl

neg-times : (z : ℤ) (n : ℕ) → neg_ℤ (z *ℤ pos n) ≡ neg_ℤ z *ℤ pos n
neg-times (pos zero) n = let z : 0 * n ≡ 0 = omega arith in ap (λ m. neg_ℤ (pos m)) z ∙ sym (ap pos z)
neg-times (pos (suc k)) n = refl
neg-times (negsuc k) n = neg-neg (pos (suc k * n))

-- ---- moved pointers

module _ (K : Fixed) (F : Map) (s : State) (m : Memory) (r : Rel K F s m) where
  -- where a pointer stands that is moved within its array
  abbrev pub moved_to : Place → ℕ → Place
  moved_to p i = record p { route = route_of (element_of p.route) i }

  module _ (p : Place) (known : p.object < F.count) (live : is_ended (F.stage p.object) ≡ false) (inside : points K.classes (F.type p.object) p.route ≡ true)
      (i : ℕ) (le : nat_le i (bound_of K.classes (F.type p.object) (element_of p.route)) ≡ true) where
    here : offset_of K F p ≡ F.base p.object + offset K.classes (F.type p.object) (element_of p.route).array + (element_of p.route).index * size K.classes (type_of_place K F p)
    here = let e = element-offset K.classes (F.type p.object) p.route in omega (arith, e)

    there : offset_of K F (moved_to p i) ≡ F.base p.object + offset K.classes (F.type p.object) (element_of p.route).array + i * size K.classes (type_of_place K F p)
    there = let e = moved-offset K.classes (F.type p.object) p.route i le in omega (arith, e)

    stands : Stands K F p.object (s.object p.object) m
    stands = r.stands p.object known live

    within : offset_of K F (moved_to p i) ≤ stands.block.size
    within =
        let inner = points-inside K.classes (F.type p.object) (route_of (element_of p.route) i) (moved-points K.classes (F.type p.object) p.route inside i le) in
        let outer = subst (λ u. F.base p.object + size K.classes u ≤ stands.block.size) (r.type p.object known) stands.size in
        omega (arith, inner, outer)

    arrives : (q : ℤ) → q ≡ pos (offset_of K F (moved_to p i)) → moved_in (F.block p.object) q (m.block (F.block p.object)) ≡ Ok (pointer_to K F (moved_to p i))
    arrives q e =
        ap (moved_in (F.block p.object) q) stands.there
        ∙ ap (in_range (F.block p.object) stands.block.size) e
        ∙ ap (λ b. if b then Ok (pointer_to K F (moved_to p i)) else Err blocks.outside)
        (let h = within in let t : nat_le (offset_of K F (moved_to p i)) stands.block.size ≡ true = grind (arith, nat_tests, h) in t)

    -- the C moves it by the bytes of so many elements
    pub moved-pointer : (z : ℤ) → further (element_of p.route).index z ≡ Some i
        → moved (pointer_to K F p) (z *ℤ pos (size K.classes (type_of_place K F p))) m ≡ Ok (pointer_to K F (moved_to p i))
    moved-pointer z e =
        arrives (pos (offset_of K F p) +ℤ (z *ℤ pos (size K.classes (type_of_place K F p))))
        (ap (λ q. pos q +ℤ (z *ℤ pos (size K.classes (type_of_place K F p)))) here
        ∙ further-bytes (element_of p.route).index i (size K.classes (type_of_place K F p)) z
        (F.base p.object + offset K.classes (F.type p.object) (element_of p.route).array) e
        ∙ ap pos (sym there))

    pub moved-pointer_back : (z : ℤ) → further (element_of p.route).index (neg_ℤ z) ≡ Some i
        → moved_back (pointer_to K F p) (z *ℤ pos (size K.classes (type_of_place K F p))) m ≡ Ok (pointer_to K F (moved_to p i))
    moved-pointer_back z e =
        arrives (pos (offset_of K F p) -ℤ (z *ℤ pos (size K.classes (type_of_place K F p))))
        (ap (λ y. pos (offset_of K F p) +ℤ y) (neg-times z (size K.classes (type_of_place K F p)))
        ∙ ap (λ q. pos q +ℤ (neg_ℤ z *ℤ pos (size K.classes (type_of_place K F p)))) here
        ∙ further-bytes (element_of p.route).index i (size K.classes (type_of_place K F p)) (neg_ℤ z)
        (F.base p.object + offset K.classes (F.type p.object) (element_of p.route).array) e
        ∙ ap pos (sym there))

  -- and it is a pointer of the same type
  pub moved-points_to : (t : SourceType) (p : Place) (c : Value) (i : ℕ) → PointsTo K F t p c
      → nat_le i (bound_of K.classes (F.type p.object) (element_of p.route)) ≡ true
      → PointsTo K F t (moved_to p i) (value.Address (pointer_to K F (moved_to p i)))
  moved-points_to t p c i h le = record {
    known = h.known;
    visible = h.visible;
    inside = moved-points K.classes (F.type p.object) p.route h.inside i le;
    type = subst (λ u. (t ≡ void) ⊎ (without_const u ≡ t)) (sym (moved-type K.classes (F.type p.object) p.route i)) h.type;
    pointer = pointer_to K F (moved_to p i);
    some = tt;
    is = refl;
    there = λ k. refl;
  }
