-- Nodes by their parts: pointers and integers, conversions, names and literals.
use Rattle.std.proofs.Common.{◌≡◌, ℕ, nat_lt, nat_le, Bool, true, false, ◌&&◌, not, if◌then◌else◌, List, [], ℤ, neg_ℤ, ◌⊎◌, inl, inr, refl, sym, ap, ◌∙◌, subst, true≢false}
use Rattle.std.specs.Prelude.{Option, Some, None}
use Rattle.cf_base.proofs.Tests.{both}
use Rattle.cf_base.specs.declared.kind.Kind.TheVariants.{Int}
use Rattle.cf_core.specs.declared.operators.PointerOperator.{PointerOperator}
use Rattle.cf_core.specs.declared.operators.PointerOperator.TheVariants as ptr
use Rattle.cf_core.specs.Types.{SourceType, void, integer, enumeration, class, pointer, reference, array, takes, gives as gives_type, data_member, function_member, const}
use Rattle.cf_core.specs.Places.{Place, is_scalar}
use Rattle.cf_core.specs.Store.{Value, Number, Null, At}
use Rattle.cf_core.specs.Run.{State, Act, ◌>>=◌, gives}
use Rattle.cf_core.specs.Pointers.{truth_value, moved_value, sum_of, moved_back, difference_of, ordered, equal_values, pointer_op}
use Rattle.cf_core.specs.Scalars.{indexed}
use Rattle.cf_core.specs.Calls.{Program}
use Rattle.cf_core.specs.Typing.{Scope, Typing, no_typing, allowed, is_function, is_integral, integral_type, scalar_type, is_integer, of_value, of_place, pointed, points_to_object, pointers_alike, may_be_equal, pointer_operated}
use Rattle.cf_core.specs.Typed.{pointed_place, indexed_type}
use Rattle.cf_core_typed.specs.Same.{is_bare}
use Rattle.cf_core_sound.specs.Proper.{shape}
use Rattle.cf_core_sound.specs.Values.{Leads, Fits, Fit, Told, told_type, told_value}
use Rattle.cf_core_sound.specs.States.{Sound}
use Rattle.cf_core_sound.specs.Well.{Well}
use Rattle.cf_core_sound.proofs.Shapes.{function-shape, pointed-whole}
use Rattle.cf_core_sound.proofs.Access.{scalar-no-void}
use Rattle.cf_core_sound.proofs.Good.{Good}
use Rattle.cf_core_sound.proofs.Typings.{nothing-told, allowed-told, object-told, integer-told, integer-number, fits-value, fits-place}
use Rattle.cf_core_sound.proofs.Operators.{IsNumber, well-moves}
use Rattle.cf_core_sound.proofs.Pointing.{truth-number, well-difference, well-ordered, well-equal}
use Rattle.cf_core_sound.proofs.Steps.{Solid, solid-type, solid-value, solid-integer}
use Rattle.cf_core_sound.proofs.Wells.{well-then, well-gives, well-as}

no-test : false ≡ true → ⊥
no-test e = true≢false (sym e)

not-true : (b : Bool) → not b ≡ true → b ≡ false
not-true true h = absurd (true≢false (sym h))
not-true false h = refl

-- ---- a pointer to an object and an integer

-- a pointer of the first, and an integer of the second
pub record Moves (x y : Typing) : Type 0 where
  pub target : SourceType
  pub is : x.type ≡ Some (pointer target)
  pub no_function : is_function (shape target) ≡ false
  pub integer : is_integer y ≡ true

moves-told : (x y : Typing) → Good x → points_to_object x && is_integer y ≡ true → Moves x y
moves-told x y g e =
    let parts = both (points_to_object x) (is_integer y) e in
    let there = object-told x parts.0 in
    let is : x.type ≡ Some (pointer there.so.target) = there.is ∙ ap Some there.so.is in
    record {
      target = there.so.target;
      is = is;
      no_function = function-shape there.so.target (pointed-whole there.so.target (g.type (pointer there.so.target) is).whole.proper).proper ∙ there.so.no_function;
      integer = parts.1;
    }

-- what two parts have to be
pub record Uses (P : Program) (locals : List SourceType) (x y : Typing) : Type 0 where
  pub first : Told x
  pub second : Told y
  pub first_solid : Solid P locals x
  pub second_solid : Solid P locals y

uses-moves : (P : Program) (locals : List SourceType) (x y : Typing) → Moves x y → Uses P locals x y
uses-moves P locals x y m = record {
  first = told_type (pointer m.target) m.is;
  second = integer-told y m.integer;
  first_solid = solid-type P locals x (pointer m.target) m.is refl;
  second_solid = solid-integer P locals y m.integer;
}

uses-back : (P : Program) (locals : List SourceType) (x y : Typing) → Uses P locals y x → Uses P locals x y
uses-back P locals x y u = record { first = u.second; second = u.first; first_solid = u.second_solid; second_solid = u.first_solid }

-- the pointer and the integer in either order
pub data Either (x y z : Typing) (go : SourceType → Typing) : Type 0 where
  forth : (m : Moves x y) → z ≡ go m.target → Either x y z go
  back : (m : Moves y x) → z ≡ go m.target → Either x y z go

if-told : (a b : Bool) (p q : Typing) → Told (if a then p else (if b then q else no_typing))
    → ((a ≡ true) × ((if a then p else (if b then q else no_typing)) ≡ p)) ⊎ ((b ≡ true) × ((if a then p else (if b then q else no_typing)) ≡ q))
if-told true b p q k = inl (refl, refl)
if-told false true p q k = inr (refl, refl)
if-told false false p q k = absurd (nothing-told k)

swapped : (a b : Bool) → (a && b) ≡ true → (b && a) ≡ true
swapped true true e = e
swapped true false e = e
swapped false true e = e
swapped false false e = e

either-of : (x y : Typing) (f : Option SourceType → Typing) (go : SourceType → Typing) → Good x → Good y → ((t : SourceType) → f (Some (pointer t)) ≡ go t)
    → Told (if points_to_object x && is_integer y then f x.type else (if is_integer x && points_to_object y then f y.type else no_typing))
    → Either x y (if points_to_object x && is_integer y then f x.type else (if is_integer x && points_to_object y then f y.type else no_typing)) go
either-of x y f go g k same told =
    by_case (if-told (points_to_object x && is_integer y) (is_integer x && points_to_object y) (f x.type) (f y.type) told)
  where
    z : Typing
    z = if points_to_object x && is_integer y then f x.type else (if is_integer x && points_to_object y then f y.type else no_typing)

    by_case : ((points_to_object x && is_integer y ≡ true) × ((if points_to_object x && is_integer y then f x.type else (if is_integer x && points_to_object y then f y.type else no_typing)) ≡ f x.type))
        ⊎ ((is_integer x && points_to_object y ≡ true) × ((if points_to_object x && is_integer y then f x.type else (if is_integer x && points_to_object y then f y.type else no_typing)) ≡ f y.type))
        → Either x y (if points_to_object x && is_integer y then f x.type else (if is_integer x && points_to_object y then f y.type else no_typing)) go
    by_case (inl e) = let m = moves-told x y g e.0 in forth m (e.1 ∙ ap f m.is ∙ same m.target)
    by_case (inr e) = let m = moves-told y x k (swapped (is_integer x) (points_to_object y) e.0) in back m (e.1 ∙ ap f m.is ∙ same m.target)

-- a pointer's value
abbrev valued : Option SourceType → Typing
valued None = no_typing
valued (Some t) = of_value t

-- pointers of one type
pub record Alike (x y : Typing) : Type 0 where
  pub type : SourceType
  pub is : x.type ≡ Some type
  pub scalar : is_scalar type ≡ true
  pub no_integer : is_integral type ≡ false
  pub second : y.value type ≡ true

alike-told : (x y : Typing) → pointers_alike x y ≡ true → Alike x y
alike-told x y e = by_type x.type refl e
  where
    three : (a b c : Bool) → (a && b && c) ≡ true → (a ≡ true) × (b ≡ true) × (c ≡ true)
    three true true c e = (refl, refl, e)
    three true false c e = absurd (no-test e)
    three false b c e = absurd (no-test e)

    by_type : (o : Option SourceType) → x.type ≡ o → (scalar_type o && not (integral_type o) && (elim o as (λ z. Bool) [ None ↦ false | Some t ↦ y.value t ])) ≡ true → Alike x y
    by_type None is e = absurd (no-test e)
    by_type (Some t) is e =
        let parts = three (is_scalar t) (not (is_integral t)) (y.value t) e in
        record { type = t; is = is; scalar = parts.0; no_integer = not-true (is_integral t) parts.1; second = parts.2 }

uses-alike : (P : Program) (locals : List SourceType) (x y : Typing) → Alike x y → Uses P locals x y
uses-alike P locals x y a = record {
  first = told_type a.type a.is;
  second = told_value a.type a.second;
  first_solid = solid-type P locals x a.type a.is (scalar-no-void a.type a.scalar);
  second_solid = solid-value P locals y a.type a.second (scalar-no-void a.type a.scalar);
}

bare-integral : (t : SourceType) → is_bare t ≡ true → is_integral (shape t) ≡ is_integral t
bare-integral (const t) h = absurd (no-test h)
bare-integral void h = refl
bare-integral (integer k) h = refl
bare-integral (enumeration e) h = refl
bare-integral (class c) h = refl
bare-integral (pointer t) h = refl
bare-integral (reference t) h = refl
bare-integral (array t n) h = refl
bare-integral (takes p t) h = refl
bare-integral (gives_type t c) h = refl
bare-integral (data_member c t) h = refl
bare-integral (function_member c t) h = refl

module _ (P : Program) (locals : List SourceType) where
  -- an act of two values that moves the pointer by the integer
  moves-well : (s : State) (x y : Typing) (m : Moves x y) (go : Value → Value → Act Value) (far : ℤ → ℤ) (v w : Value) → Sound P locals s → Fits P s x v → Fits P s y w
      → ((p : Place) (z : ℤ) → go (At p) (Number z) ≡ moved_value [] (At p) (far z)) → ((z : ℤ) → go Null (Number z) ≡ moved_value [] Null (far z))
      → Well P locals s (λ v u. Leads P u (shape m.target) v) (go v w)
  moves-well s x y m go far v w h f g at_place at_null =
      let n = integer-number P s y w m.integer g in
      well-moves P locals s (shape m.target) go v w n.0 (far n.0) h m.no_function (f.type (pointer m.target) m.is) n.1 (λ p. at_place p n.0) (at_null n.0)

  pub indexed-uses : (scope : Scope) (x y : Typing) → Good x → Good y → Told (indexed_type scope x y) → Uses P locals x y
  indexed-uses scope x y g k told = by_case (either-of x y (λ o. pointed_place scope (pointed o)) of_place g k (λ t. refl) told)
    where
      by_case : Either x y (indexed_type scope x y) of_place → Uses P locals x y
      by_case (forth m e) = uses-moves P locals x y m
      by_case (back m e) = uses-back P locals x y (uses-moves P locals y x m)

  pub well-indexed : (scope : Scope) (s : State) (x y : Typing) (v w : Value) → Sound P locals s → Good x → Good y → Told (indexed_type scope x y) → Fits P s x v → Fits P s y w
      → Well P locals s (λ v u. Fit P u (indexed_type scope x y) v) (indexed [] v w)
  well-indexed scope s x y v w h gx gy told f g = by_case (either-of x y (λ o. pointed_place scope (pointed o)) of_place gx gy (λ t. refl) told)
    where
      by_case : Either x y (indexed_type scope x y) of_place → Well P locals s (λ v u. Fit P u (indexed_type scope x y) v) (indexed [] v w)
      by_case (forth m e) = subst (λ z. Well P locals s (λ v u. Fit P u z v) (indexed [] v w)) (sym e)
          (well-as P locals s (indexed [] v w) (moves-well s x y m (indexed []) (λ z. z) v w h f g (λ p z. refl) (λ z. refl)) (λ v u b l. inr (fits-place P u m.target v l)))
      by_case (back m e) = subst (λ z. Well P locals s (λ v u. Fit P u z v) (indexed [] v w)) (sym e)
          (well-as P locals s (indexed [] v w) (moves-well s y x m (λ w v. indexed [] v w) (λ z. z) w v h g f (λ p z. refl) (λ z. refl)) (λ v u b l. inr (fits-place P u m.target v l)))

  -- ---- operators on pointers

  pointer-fits : (u : State) (t : SourceType) (v : Value) → Leads P u (shape t) v → Fit P u (of_value (pointer t)) v
  pointer-fits u t v l = inr (fits-value P u (pointer t) v (inr l))

  int-fits : (u : State) (v : Value) → IsNumber P locals Int v → Fit P u (of_value (integer Int)) v
  int-fits u v n = inr (fits-value P u (integer Int) v n)

  sum-well : (s : State) (x y : Typing) (v w : Value) → Sound P locals s → Fits P s x v → Fits P s y w → Either x y (pointer_operated ptr.Add x y) (λ t. of_value (pointer t))
      → Well P locals s (λ v u. Fit P u (pointer_operated ptr.Add x y) v) (sum_of [] v w)
  sum-well s x y v w h f g (forth m e) = subst (λ z. Well P locals s (λ v u. Fit P u z v) (sum_of [] v w)) (sym e)
      (well-as P locals s (sum_of [] v w) (moves-well s x y m (sum_of []) (λ z. z) v w h f g (λ p z. refl) (λ z. refl)) (λ v u b l. pointer-fits u m.target v l))
  sum-well s x y v w h f g (back m e) = subst (λ z. Well P locals s (λ v u. Fit P u z v) (sum_of [] v w)) (sym e)
      (well-as P locals s (sum_of [] v w) (moves-well s y x m (λ w v. sum_of [] v w) (λ z. z) w v h g f (λ p z. refl) (λ z. refl)) (λ v u b l. pointer-fits u m.target v l))

  two-pointers : (x y : Typing) → Good x → points_to_object x && pointers_alike x y ≡ true → (t : SourceType) × (x.type ≡ Some (pointer t)) × (is_function (shape t) ≡ false) × (y.value (pointer t) ≡ true)
  two-pointers x y g e =
      let parts = both (points_to_object x) (pointers_alike x y) e in
      let there = object-told x parts.0 in
      let a = alike-told x y parts.1 in
      let is : x.type ≡ Some (pointer there.so.target) = there.is ∙ ap Some there.so.is in
      let same : a.type ≡ pointer there.so.target = of-some a.type (pointer there.so.target) (sym a.is ∙ is) in (
        there.so.target,
        is,
        function-shape there.so.target (pointed-whole there.so.target (g.type (pointer there.so.target) is).whole.proper).proper ∙ there.so.no_function,
        subst (λ t. y.value t ≡ true) same a.second,
      )
    where
      of-some : (a b : SourceType) → Some a ≡ Some b → a ≡ b
      of-some a b e = cc

  uses-two : (x y : Typing) → points_to_object x && pointers_alike x y ≡ true → Uses P locals x y
  uses-two x y e = uses-alike P locals x y (alike-told x y (both (points_to_object x) (pointers_alike x y) e).1)

  allowed-int : (b : Bool) (s : State) (act : Act Value) → b ≡ true → Well P locals s (λ v u. IsNumber P locals Int v) act
      → Well P locals s (λ v u. Fit P u (allowed b (of_value (integer Int))) v) act
  allowed-int b s act e k = subst (λ c. Well P locals s (λ v u. Fit P u (allowed c (of_value (integer Int))) v) act) (sym e) (well-as P locals s act k (λ v u b n. int-fits u v n))

  equal-well : (s : State) (x y : Typing) (v w : Value) (f : Bool → Bool) → Sound P locals s → Good x → Alike x y → Fits P s x v → Fits P s y w
      → Well P locals s (λ v u. IsNumber P locals Int v) (equal_values [] v w >>= (λ b. gives (truth_value (f b))))
  equal-well s x y v w f h g a fx fy =
      well-then P locals s (equal_values [] v w) (λ b. gives (truth_value (f b)))
      (well-equal P locals s a.type v w h (bare-integral a.type (g.type a.type a.is).bare ∙ a.no_integer) (fx.type a.type a.is) (fy.value a.type a.second) (scalar-no-void a.type a.scalar))
      (λ b u k q. well-gives P locals u (truth_value (f b)) k.sound (truth-number P locals (f b)))

  pub operated-uses : (o : PointerOperator) (x y : Typing) → Good x → Good y → Told (pointer_operated o x y) → Uses P locals x y
  operated-uses ptr.Add x y g k told = by_case (either-of x y valued (λ t. of_value (pointer t)) g k (λ t. refl) told)
    where
      by_case : Either x y (pointer_operated ptr.Add x y) (λ t. of_value (pointer t)) → Uses P locals x y
      by_case (forth m e) = uses-moves P locals x y m
      by_case (back m e) = uses-back P locals x y (uses-moves P locals y x m)
  operated-uses ptr.Subtract x y g k told = uses-moves P locals x y (moves-told x y g (allowed-told (points_to_object x && is_integer y) _ told).0)
  operated-uses ptr.Equal x y g k told = uses-alike P locals x y (alike-told x y (both (pointers_alike x y) _ (allowed-told (may_be_equal x y) _ told).0).0)
  operated-uses ptr.NotEqual x y g k told = uses-alike P locals x y (alike-told x y (both (pointers_alike x y) _ (allowed-told (may_be_equal x y) _ told).0).0)
  operated-uses ptr.Difference x y g k told = uses-two x y (allowed-told (points_to_object x && pointers_alike x y) _ told).0
  operated-uses ptr.Less x y g k told = uses-two x y (allowed-told (points_to_object x && pointers_alike x y) _ told).0
  operated-uses ptr.Greater x y g k told = uses-two x y (allowed-told (points_to_object x && pointers_alike x y) _ told).0
  operated-uses ptr.LessEqual x y g k told = uses-two x y (allowed-told (points_to_object x && pointers_alike x y) _ told).0
  operated-uses ptr.GreaterEqual x y g k told = uses-two x y (allowed-told (points_to_object x && pointers_alike x y) _ told).0

  order-well : (s : State) (x y : Typing) (less : ℕ → ℕ → Bool) (v w : Value) → Sound P locals s → Good x → Fits P s x v → Fits P s y w → Told (allowed (points_to_object x && pointers_alike x y) (of_value (integer Int)))
      → Well P locals s (λ v u. Fit P u (allowed (points_to_object x && pointers_alike x y) (of_value (integer Int))) v) (ordered [] less v w)
  order-well s x y less v w h g fx fy told =
      let e = (allowed-told (points_to_object x && pointers_alike x y) (of_value (integer Int)) told).0 in
      let t = two-pointers x y g e in
      allowed-int (points_to_object x && pointers_alike x y) s (ordered [] less v w) e (well-ordered P locals s (shape t.0) less v w h t.2 (fx.type (pointer t.0) t.1) (fy.value (pointer t.0) t.3))

  pub well-pointer : (o : PointerOperator) (s : State) (x y : Typing) (v w : Value) → Sound P locals s → Good x → Good y → Told (pointer_operated o x y) → Fits P s x v → Fits P s y w
      → Well P locals s (λ v u. Fit P u (pointer_operated o x y) v) (pointer_op [] o v w)
  well-pointer ptr.Add s x y v w h gx gy told f g = sum-well s x y v w h f g (either-of x y valued (λ t. of_value (pointer t)) gx gy (λ t. refl) told)
  well-pointer ptr.Subtract s x y v w h gx gy told f g =
      let e = (allowed-told (points_to_object x && is_integer y) (valued x.type) told).0 in
      let m = moves-told x y gx e in
      let same : pointer_operated ptr.Subtract x y ≡ of_value (pointer m.target) = ap (λ b. allowed b (valued x.type)) e ∙ ap valued m.is in
      subst (λ z. Well P locals s (λ v u. Fit P u z v) (moved_back [] v w)) (sym same)
      (well-as P locals s (moved_back [] v w) (moves-well s x y m (moved_back []) neg_ℤ v w h f g (λ p z. refl) (λ z. refl)) (λ v u b l. pointer-fits u m.target v l))
  well-pointer ptr.Equal s x y v w h gx gy told f g =
      let e = (allowed-told (may_be_equal x y) (of_value (integer Int)) told).0 in
      allowed-int (may_be_equal x y) s _ e (equal-well s x y v w (λ b. b) h gx (alike-told x y (both (pointers_alike x y) _ e).0) f g)
  well-pointer ptr.NotEqual s x y v w h gx gy told f g =
      let e = (allowed-told (may_be_equal x y) (of_value (integer Int)) told).0 in
      allowed-int (may_be_equal x y) s _ e (equal-well s x y v w not h gx (alike-told x y (both (pointers_alike x y) _ e).0) f g)
  well-pointer ptr.Difference s x y v w h gx gy told f g =
      let e = (allowed-told (points_to_object x && pointers_alike x y) (of_value (integer Int)) told).0 in
      let t = two-pointers x y gx e in
      allowed-int (points_to_object x && pointers_alike x y) s (difference_of v w) e (well-difference P locals s (shape t.0) v w h t.2 (f.type (pointer t.0) t.1) (g.value (pointer t.0) t.3))
  well-pointer ptr.Less s x y v w h gx gy told f g = order-well s x y nat_lt v w h gx f g told
  well-pointer ptr.Greater s x y v w h gx gy told f g = order-well s x y (λ i j. nat_lt j i) v w h gx f g told
  well-pointer ptr.LessEqual s x y v w h gx gy told f g = order-well s x y nat_le v w h gx f g told
  well-pointer ptr.GreaterEqual s x y v w h gx gy told f g = order-well s x y (λ i j. nat_le j i) v w h gx f g told
