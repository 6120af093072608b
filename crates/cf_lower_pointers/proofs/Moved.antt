-- A pointer is moved in both: the C moves it by the bytes of so many elements.
use Rattle.std.proofs.Common.{◌≡◌, ℕ, ◌+◌, ◌*◌, ◌≤◌, ◌<◌, nat_le, Bool, true, false, not, ◌||◌, List, [], ◌∷◌, Option, Some, None, Result, Ok, ℤ, pos, negsuc, neg_ℤ, ◌*ℤ◌, refl, sym, ◌∙◌, ap, subst, arith, ◌⊎◌, inl, inr}
use Rattle.std.proofs.lemmas.Bool.Decides.{nat_tests}
use Rattle.cf_base.specs.declared.kind.Kind.{Kind}
use Rattle.cf_base.specs.declared.kind.Kind.TheVariants.{Int}
use Rattle.cf_base.specs.declared.arith.Arith.{Arith}
use Rattle.cf_base.specs.declared.arith.Arith.TheVariants as op
use Rattle.cf_base.specs.Integers.{fits, convert, int_op, ranged}
use Rattle.cf_base.specs.World.{World}
use Rattle.cf_core.specs.Types.{Name, SourceType, void, without_const}
use Rattle.cf_core.specs.Classes.{Class}
use Rattle.cf_core.specs.Places.{Route, Place, type_at}
use Rattle.cf_core.specs.Pointers.{Element, element_of, route_of, bound_of, further, up_to, moved_place}
use Rattle.cf_core.specs.Size.{size}
use Rattle.cf_core.specs.Store as source
use Rattle.cf_core.specs.Store.{Object, is_dead}
use Rattle.cf_core.specs.Run.{State, ◌>>=◌, ◌>>◌, gives, need}
use Rattle.cf_core.specs.Calls.{Program}
use Rattle.cf_lower_layout.specs.Sorts.{address}
use Rattle.cf_lower_layout.specs.Layout.{points}
use Rattle.cf_lower_layout.proofs.Laid.{laid-at, size-without}
use Rattle.cf_lower_layout.proofs.Order.{index-below, bound-inside}
use Rattle.cf_lower_layout.proofs.Sizes.{size-some}
use Rattle.cc_whole.specs.Plain.{Expression, constant, binary}
use Rattle.cc_whole_memory.specs.declared.value.Value.{Value}
use Rattle.cc_whole_memory.specs.declared.value.Value.TheVariants as value
use Rattle.cc_whole_memory.specs.Blocks.{Memory, on_ok}
use Rattle.cc_whole_memory.specs.Pointers.{moved, moved_back}
use Rattle.cc_whole_mean.specs.Scope.{Scope}
use Rattle.cc_whole_mean.specs.Values.{value_of, number, address_value, of_numbers, applied}
use Rattle.cf_lower_relate.specs.Map.{Map, is_ended, is_shown, pointer_to, type_of_place, PointsTo}
use Rattle.cf_lower_relate.specs.Relation.{Rel}
use Rattle.cf_lower_relate.proofs.Bits.{convert-int}
use Rattle.cf_lower_relate.proofs.Comparisons.{Standing}
use Rattle.cf_lower_relate.proofs.Counts.{far, further-far, far-neg, fits-pos, ranged-fits, Steps, steps-fit}
use Rattle.cf_lower_relate.proofs.Moves.{moved_to, moved-pointer, moved-pointer_back, moved-points_to}
use Rattle.cf_lower_relate.proofs.Words.{convert-same}
use Rattle.cf_lower.specs.Kept.{integer_of, holds}
use Rattle.cf_lower.specs.Written.{int_constant}
use Rattle.cf_lower.specs.Expressions as c
use Rattle.cf_lower_steps.specs.Steps.{HasValue, GivenAs, Step}
use Rattle.cf_lower_steps.proofs.Values.{K, stage-shown, step-need}

not-false : (b : Bool) → not b ≡ true → b ≡ false
not-false true h = absurd (cc)
not-false false h = refl

or-false : (a b : Bool) → a || b ≡ false → (a ≡ false) × (b ≡ false)
or-false true b h = absurd (cc)
or-false false b h = (refl, h)

-- what isn't dead stands
pub not-dead-stands : (cs : List Class) (x : Object) (π : Route) → is_dead cs x π ≡ false → x.is_gone ≡ false
not-dead-stands cs x [] h = (or-false x.is_gone _ h).0
not-dead-stands cs x (s ∷ π) h = not-dead-stands cs x π (or-false _ (is_dead cs x π) h).1

-- an address in the C's memory, of a place that stands
pub record AtPlace (P : Program) (function : Name → ℕ) (signature : Name → SourceType) (F : Map) (p : Place) (found : Result Value ℕ) : Type 0 where
  pub known : p.object < F.count
  pub live : is_ended (F.stage p.object) ≡ false
  pub inside : points P.classes (F.type p.object) p.route ≡ true
  pub is : found ≡ Ok (value.Address (pointer_to (K P function signature F) F p))

module _ (P : Program) (function : Name → ℕ) (signature : Name → SourceType) (F : Map) (s : State) (m : Memory) (rel : Rel (K P function signature F) F s m)
    (w : World) (scope : Scope) where
  -- a pointer to an object that isn't gone
  pub at-place : (t : SourceType) (p : Place) (found : Result Value ℕ) → HasValue (K P function signature F) F (holds (address t)) (source.At p) found
      → (s.object p.object).is_gone ≡ false → AtPlace P function signature F p found
  at-place t p found h there =
      let live : is_ended (F.stage p.object) ≡ false = sym (rel.gone p.object h.same.known) ∙ there in
      record {
        known = h.same.known;
        live = live;
        inside = h.same.inside;
        is = h.is ∙ ap (λ (v : Value). Ok v) (h.same.is ∙ ap value.Address (h.same.there (stage-shown (F.stage p.object) h.same.visible live)));
      }

  -- the bytes of a pointer's type are those of what it points to
  pub pointed-size : (t : SourceType) (p : Place) (c : Value) → (t ≡ void → ⊥) → PointsTo (K P function signature F) F t p c
      → size P.classes t ≡ size P.classes (type_of_place (K P function signature F) F p)
  pointed-size t p c no_void h = by_type h.type
    where
      by_type : (t ≡ void) ⊎ (without_const (type_of_place (K P function signature F) F p) ≡ t) → size P.classes t ≡ size P.classes (type_of_place (K P function signature F) F p)
      by_type (inl e) = absurd (no_void e)
      by_type (inr e) = sym (ap (size P.classes) e) ∙ size-without P.classes (type_of_place (K P function signature F) F p)

  -- so many elements of so many bytes, as an int
  steps-value : (z : ℤ) (n : ℕ) (e : Expression) → n ≤ 4194304 → Steps z n → value_of e scope m ≡ Ok (value.Number Int (convert Int z))
      → value_of (binary op.Multiply e (constant (int_constant n))) scope m ≡ Ok (value.Number Int (z *ℤ pos n))
  steps-value z n e le fit h =
      ap (λ a. on_ok a (λ x. applied op.Multiply x (value.Number Int (pos n)) m)) h
      ∙ ap (λ x. number Int (int_op op.Multiply Int x (convert Int (pos n)))) (convert-int Int z ∙ fit.same)
      ∙ ap (λ x. number Int (int_op op.Multiply Int z x)) (convert-same Int (pos n) (fits-pos n le))
      ∙ ap (number Int) (ranged-fits (z *ℤ pos n) fit.product)

  module _ (t : SourceType) (no_void : t ≡ void → ⊥) (p : Place) (z : ℤ) (f : Kind → Bool) (ep ei : Expression)
      (hp : HasValue (K P function signature F) F (holds (address t)) (source.At p) (value_of ep scope m))
      (hi : HasValue (K P function signature F) F (integer_of f) (source.Number z) (value_of ei scope m)) where
    module _ (i : ℕ) (y : ℤ) (same : far y ≡ far z) (e : further (element_of p.route).index y ≡ Some i)
        (le : nat_le i (bound_of P.classes (s.object p.object).type (element_of p.route)) ≡ true) where
      sizes : size P.classes t ≡ size P.classes (type_of_place (K P function signature F) F p)
      sizes = pointed-size t p hp.value no_void hp.same

      small : size P.classes t ≤ 4194304
      small =
          let laid = (laid-at P.classes (F.type p.object) (rel.laid p.object hp.same.known) p.route hp.same.inside).small in
          let equal = sizes in
          omega (arith, laid, equal)

      most : nat_le i (bound_of P.classes (F.type p.object) (element_of p.route)) ≡ true
      most = subst (λ u. nat_le i (bound_of P.classes u (element_of p.route)) ≡ true) (rel.type p.object hp.same.known) le

      steps : Steps z (size P.classes t)
      steps =
          let at_most = most in
          let equal = sizes in
          let below : i ≤ bound_of P.classes (F.type p.object) (element_of p.route) = grind (arith, nat_tests, at_most) in
          let index = index-below P.classes (F.type p.object) p.route hp.same.inside in
          let some : 0 < size P.classes (type_of_place (K P function signature F) F p) =
          size-some P.classes (type_of_place (K P function signature F) F p)
          (laid-at P.classes (F.type p.object) (rel.laid p.object hp.same.known) p.route hp.same.inside).some in
          let whole = bound-inside P.classes (F.type p.object) p.route hp.same.inside in
          let laid = (rel.laid p.object hp.same.known).small in
          let bytes : bound_of P.classes (F.type p.object) (element_of p.route) * size P.classes t ≤ 4194304 =
          subst (λ (k : ℕ). bound_of P.classes (F.type p.object) (element_of p.route) * k ≤ 4194304) (sym equal) (omega (arith, whole, laid)) in
          steps-fit z (size P.classes t) (bound_of P.classes (F.type p.object) (element_of p.route))
          (subst (λ (k : ℕ). k ≤ bound_of P.classes (F.type p.object) (element_of p.route)) same
          (further-far (element_of p.route).index i (bound_of P.classes (F.type p.object) (element_of p.route)) y e below index))
          (omega (arith, some, equal)) bytes

      -- the C's elements in bytes
      by-bytes : value_of (binary op.Multiply ei (constant (int_constant (size P.classes t)))) scope m ≡ Ok (value.Number Int (z *ℤ pos (size P.classes t)))
      by-bytes = steps-value z (size P.classes t) ei small steps (hi.is ∙ ap (λ (v : Value). Ok v) hi.same.is)

      moved-there : GivenAs (K P function signature F) F (holds (address t)) (source.At (record p { route = route_of (element_of p.route) i }))
          (Ok (value.Address (pointer_to (K P function signature F) F (record p { route = route_of (element_of p.route) i }))))
      moved-there = record {
        value = value.Address (pointer_to (K P function signature F) F (record p { route = route_of (element_of p.route) i }));
        is = refl;
        same = moved-points_to (K P function signature F) F s m rel t p hp.value i hp.same most;
      }

    -- what a moved pointer is in C, given that the C moves it so
    moved-step : (y : ℤ) → far y ≡ far z → (found : Result Value ℕ)
        → ((i : ℕ) → AtPlace P function signature F p (value_of ep scope m) → further (element_of p.route).index y ≡ Some i
        → nat_le i (bound_of P.classes (s.object p.object).type (element_of p.route)) ≡ true
        → found ≡ Ok (value.Address (pointer_to (K P function signature F) F (record p { route = route_of (element_of p.route) i }))))
        → Step (K P function signature F) F (moved_place P.classes p y s w) s w (holds (address t)) found
    moved-step y same found arrives =
        step-need P function signature F s w (holds (address t)) found (not (s.object p.object).is_gone) 5 _ (λ alive.
        by_number (at-place t p (value_of ep scope m) hp (not-false _ alive))
        (further (element_of p.route).index y) refl)
      where
        by_number : AtPlace P function signature F p (value_of ep scope m) → (o : Option ℕ) → further (element_of p.route).index y ≡ o
            → Step (K P function signature F) F
            ((up_to (bound_of P.classes (s.object p.object).type (element_of p.route)) o >>= (λ i. gives (source.At (record p { route = route_of (element_of p.route) i })))) s w)
            s w (holds (address t)) found
        by_number at None e = record { by = refl }
        by_number at (Some i) e = by_test (nat_le i (bound_of P.classes (s.object p.object).type (element_of p.route))) refl
          where
            by_test : (b : Bool) → nat_le i (bound_of P.classes (s.object p.object).type (element_of p.route)) ≡ b
                → Step (K P function signature F) F
                (((need b 6 >> gives i) >>= (λ i. gives (source.At (record p { route = route_of (element_of p.route) i })))) s w) s w (holds (address t)) found
            by_test true le = record {
              by = (
                refl,
                refl,
                subst (λ x. GivenAs (K P function signature F) F (holds (address t)) (source.At (record p { route = route_of (element_of p.route) i })) x)
                    (sym (arrives i at e le)) (moved-there i y same e le),
              );
            }
            by_test false le = record { by = refl }

    -- forward
    pub added : Step (K P function signature F) F (moved_place P.classes p z s w) s w (holds (address t)) (value_of (c.moved_by op.Add ep (size P.classes t) ei) scope m)
    added =
        moved-step z refl _ (λ i at e le.
        ap (λ a. on_ok a (λ x. on_ok (value_of (binary op.Multiply ei (constant (int_constant (size P.classes t)))) scope m) (λ y. applied op.Add x y m))) at.is
        ∙ ap (λ a. on_ok a (λ y. applied op.Add (value.Address (pointer_to (K P function signature F) F p)) y m)) (by-bytes i z refl e le)
        ∙ ap (λ k. address_value (moved (pointer_to (K P function signature F) F p) (z *ℤ pos k) m)) (sizes i z refl e le)
        ∙ ap address_value (moved-pointer (K P function signature F) F s m rel p at.known at.live at.inside i (most i z refl e le) z e))

    -- back
    pub taken : Step (K P function signature F) F (moved_place P.classes p (neg_ℤ z) s w) s w (holds (address t))
        (value_of (c.moved_by op.Subtract ep (size P.classes t) ei) scope m)
    taken =
        moved-step (neg_ℤ z) (far-neg z) _ (λ i at e le.
        ap (λ a. on_ok a (λ x. on_ok (value_of (binary op.Multiply ei (constant (int_constant (size P.classes t)))) scope m) (λ y. applied op.Subtract x y m))) at.is
        ∙ ap (λ a. on_ok a (λ y. applied op.Subtract (value.Address (pointer_to (K P function signature F) F p)) y m)) (by-bytes i (neg_ℤ z) (far-neg z) e le)
        ∙ ap (λ k. address_value (moved_back (pointer_to (K P function signature F) F p) (z *ℤ pos k) m)) (sizes i (neg_ℤ z) (far-neg z) e le)
        ∙ ap address_value (moved-pointer_back (K P function signature F) F s m rel p at.known at.live at.inside i (most i (neg_ℤ z) (far-neg z) e le) z e))
