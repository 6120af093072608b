-- Where the typing of a simple node tells of a place or of a pointer, its form tells the same.
use Rattle.std.proofs.Common.{◌≡◌, ℕ, Bool, true, false, ◌&&◌, ◌||◌, not, if◌then◌else◌, ◌⊎◌, inl, inr, ℤ, length, refl, sym, ap, ◌∙◌, subst, true≢false}
use Rattle.std.specs.Prelude.{Option, Some, None, is_some, slice_get}
use Rattle.cf_base.proofs.Tests.{both}
use Rattle.cf_base.specs.declared.kind.Kind.TheVariants.{Int, ULong, Char}
use Rattle.cf_base.specs.declared.arith.Arith.{Arith}
use Rattle.cf_base.specs.declared.kind.Kind.{Kind}
use Rattle.cf_core.specs.declared.operators.PointerOperator.{PointerOperator}
use Rattle.cf_core.specs.declared.operators.PointerOperator.TheVariants as ptr
use Rattle.cf_core.specs.Types.{SourceType, void, integer, enumeration, class, pointer, reference, array, takes, gives, data_member, function_member, const, plain, without_const, same_but_const, result}
use Rattle.cf_core.specs.Core as core
use Rattle.cf_core.specs.Core.{Core, Cores, no_temporary, absent, Change}
use Rattle.cf_core.specs.Calls.{Program}
use Rattle.cf_core.specs.Typing.{Scope, Typing, no_typing, allowed, is_function, is_integral, of_start, of_value, of_number, of_place, of_name, of_result, null_if, integral_type, is_integer, points_to_object, pointed, operated_type, is_comparison, pointer_operated, both as both_types, or_else, either}
use Rattle.cf_core.specs.Typed.{typing, last_typing, read_type, decayed_type, pointed_place, address_type, stored, changed_in_place, indexed_type, stepped}
use Rattle.cf_core_typed.specs.Same.{Same}
use Rattle.cf_core_typed.proofs.Same.{same-told, type-equal}
use Rattle.cf_core_sound.specs.Forms.{Form, other, place, pointer_to, points, place_if, pointer_if, named, valued, given_back, loaded, addressed, decayed, or_that, moved_by, stepped_form, form, last_form}
use Rattle.cf_core_sound.specs.Simple.{is_simple, are_simple, is_whole, is_called_type, leads_to_void, leads_to_function, keeps_functions}
use Rattle.cf_core_sound.proofs.Typings.{There, ToObject, object-told, or-cases}

no-test : false ≡ true → ⊥
no-test e = true≢false (sym e)

of-some : {A : Type 0} (a b : A) → Some a ≡ Some b → a ≡ b
of-some a b e = cc

none-is : {A : Type 0} (a : A) → None ≡ Some a → ⊥
none-is a e = absurd (cc)

-- an integer type, const or not
abbrev pub like_integer : SourceType → Bool
like_integer t = is_integral (without_const t)

-- a value that is a pointer of this type, of the type that is told
pub record IsPointer (x : Typing) (t : SourceType) : Type 0 where
  pub of : SourceType
  pub is : x.type ≡ Some of
  pub same : same_but_const of (pointer t) ≡ true

pub record Tells (x : Typing) (f : Form) : Type 0 where
  pub place : (t : SourceType) → x.place ≡ Some t → f ≡ place t
  pub type : (t : SourceType) → x.type ≡ Some (pointer t) → points f ≡ Some t
  pub integral : (t : SourceType) → like_integer t ≡ true → x.type ≡ Some t → f ≡ other
  pub number : (z : ℤ) → x.number ≡ Some z → f ≡ other
  pub held : (t : SourceType) → like_integer t ≡ true → x.value t ≡ true → f ≡ other
  pub valued : (t : SourceType) → x.value (pointer t) ≡ true → IsPointer x t

-- ---- types

same-types : (t u : SourceType) → same_but_const t u ≡ true → without_const t ≡ without_const u
same-types t u e = type-equal (without_const t) (without_const u) e

like-same : (t u : SourceType) → same_but_const t u ≡ true → like_integer u ≡ true → like_integer t ≡ true
like-same t u e i = ap is_integral (same-types t u e) ∙ i

integer-other : (t : SourceType) → like_integer t ≡ true → valued t ≡ other
integer-other (pointer t) e = absurd (no-test e)
integer-other t e = refl

-- ---- typings by their forms

tells-nothing : (f : Form) → Tells no_typing f
tells-nothing f = record {
  place = λ t e. absurd (none-is t e);
  type = λ t e. absurd (none-is (pointer t) e);
  integral = λ t i e. absurd (none-is t e);
  number = λ z e. absurd (none-is z e);
  held = λ t i e. absurd (no-test e);
  valued = λ t e. absurd (no-test e);
}

tells-allowed : (b : Bool) (x : Typing) (f : Form) → Tells x f → Tells (allowed b x) f
tells-allowed true x f h = h
tells-allowed false x f h = tells-nothing f

tells-start : (q : SourceType → Bool) (f : Form) → Tells (of_start q) f
tells-start q f = record {
  place = λ t e. absurd (none-is t e);
  type = λ t e. absurd (none-is (pointer t) e);
  integral = λ t i e. absurd (none-is t e);
  number = λ z e. absurd (none-is z e);
  held = λ t i e. absurd (no-test e);
  valued = λ t e. absurd (no-test e);
}

tells-value : (t : SourceType) → Tells (of_value t) (valued t)
tells-value t = record {
  place = λ u e. absurd (none-is u e);
  type = λ u e. subst (λ a. points (valued a) ≡ Some u) (sym (of-some t (pointer u) e)) refl;
  integral = λ u i e. integer-other t (ap like_integer (of-some t u e) ∙ i);
  number = λ z e. absurd (none-is z e);
  held = λ u i e. integer-other t (like-same t u e i);
  valued = λ u e. record { of = t; is = refl; same = e };
}

tells-null : (b : Bool) (x : Typing) (f : Form) → Tells x f → Tells (null_if b x) f
tells-null b x f h = record {
  place = h.place;
  type = h.type;
  integral = h.integral;
  number = h.number;
  held = h.held;
  valued = λ t e. let p = h.valued t e in record { of = p.of; is = p.is; same = p.same };
}

tells-number : (z : ℤ) → Tells (of_number z) other
tells-number z = record {
  place = λ t e. absurd (none-is t e);
  type = λ t e. absurd (none-is (pointer t) e);
  integral = λ t i e. refl;
  number = λ y e. refl;
  held = λ t i e. refl;
  valued = λ t e. absurd (no-test e);
}

tells-place : (t : SourceType) → Tells (of_place t) (place t)
tells-place t = by_test (is_function t)
  where
    pointer-integer : (u : SourceType) → pointer t ≡ u → like_integer u ≡ true → ⊥
    pointer-integer u e i = no-test (ap like_integer e ∙ i)

    by_test : (b : Bool) → Tells (elim b as (λ c. Typing) [ true ↦ record (of_value (pointer t)) { place = Some t } | false ↦ record no_typing { place = Some t } ]) (place t)
    by_test true = record {
      place = λ u e. ap place (of-some t u e);
      type = λ u e. cc;
      integral = λ u i e. absurd (pointer-integer u (of-some (pointer t) u e) i);
      number = λ z e. absurd (none-is z e);
      held = λ u i e. absurd (no-test (like-same (pointer t) u e i));
      valued = λ u e. record { of = pointer t; is = refl; same = e };
    }
    by_test false = record {
      place = λ u e. ap place (of-some t u e);
      type = λ u e. absurd (none-is (pointer u) e);
      integral = λ u i e. absurd (none-is u e);
      number = λ z e. absurd (none-is z e);
      held = λ u i e. absurd (no-test e);
      valued = λ u e. absurd (no-test e);
    }

tells-name : (x : Option SourceType) → Tells (of_name x) (named x)
tells-name None = tells-nothing other
tells-name (Some (reference t)) = tells-place t
tells-name (Some t) = tells-place t

tells-result : (t : SourceType) → Tells (of_result t) (given_back t)
tells-result (reference t) = tells-place t
tells-result (class c) = tells-start (same_but_const (class c)) other
tells-result (const t) = tells-result t
tells-result t = tells-value t

-- ---- an integer is neither

tells-integer : (x : Typing) (f : Form) → Tells x f → is_integer x ≡ true → f ≡ other
tells-integer x f h e = by_first (or-cases (integral_type x.type) (is_some x.number || x.value (integer Int) || x.value (integer ULong)) (regroup (integral_type x.type) (is_some x.number) (x.value (integer Int)) (x.value (integer ULong)) e))
  where
    regroup : (a b c d : Bool) → (a || b || c || d) ≡ true → (a || (b || c || d)) ≡ true
    regroup true b c d e = refl
    regroup false b c d e = e

    plain-integral : (t : SourceType) → is_integral t ≡ true → like_integer t ≡ true
    plain-integral (integer k) e = refl
    plain-integral (enumeration n) e = refl
    plain-integral t e = absurd (no-test e)

    by_type : (o : Option SourceType) → x.type ≡ o → integral_type o ≡ true → f ≡ other
    by_type None is e = absurd (no-test e)
    by_type (Some t) is e = h.integral t (plain-integral t e) is

    by_number : (o : Option ℤ) → x.number ≡ o → is_some o ≡ true → f ≡ other
    by_number None is e = absurd (no-test e)
    by_number (Some z) is e = h.number z is

    three : (a b c : Bool) → (a || b || c) ≡ true → (a ≡ true) ⊎ ((b ≡ true) ⊎ (c ≡ true))
    three true b c e = inl refl
    three false true c e = inr (inl refl)
    three false false c e = inr (inr e)

    by_others : (is_some x.number ≡ true) ⊎ ((x.value (integer Int) ≡ true) ⊎ (x.value (integer ULong) ≡ true)) → f ≡ other
    by_others (inl e) = by_number x.number refl e
    by_others (inr (inl e)) = h.held (integer Int) refl e
    by_others (inr (inr e)) = h.held (integer ULong) refl e

    by_first : (integral_type x.type ≡ true) ⊎ ((is_some x.number || x.value (integer Int) || x.value (integer ULong)) ≡ true) → f ≡ other
    by_first (inl e) = by_type x.type refl e
    by_first (inr e) = by_others (three (is_some x.number) (x.value (integer Int)) (x.value (integer ULong)) e)

-- ---- parts

first-points : (f g : Form) (t : SourceType) → points f ≡ Some t → points (or_that f g) ≡ Some t
first-points other g t e = absurd (none-is t e)
first-points (place u) g t e = e
first-points (pointer_to u) g t e = e

second-points : (f g : Form) (t : SourceType) → f ≡ other → points g ≡ Some t → points (or_that f g) ≡ Some t
second-points f g t is e = ap (λ h. points (or_that h g)) is ∙ e

module _ (scope : Scope) where
  abbrev AtPlace : Option SourceType → Form → Type 0
  AtPlace x f = (t : SourceType) → x ≡ Some t → f ≡ place t

  tells-read : (x : Option SourceType) (f : Form) → AtPlace x f → Tells (read_type scope x) (loaded f)
  tells-read None f h = tells-nothing (loaded f)
  tells-read (Some t) f h = subst (λ g. Tells (read_type scope (Some t)) (loaded g)) (sym (h t refl)) (tells-allowed _ (of_value (plain t)) (valued (plain t)) (tells-value (plain t)))

  tells-address : (x : Option SourceType) (f : Form) → AtPlace x f → Tells (address_type scope x) (addressed f)
  tells-address None f h = tells-nothing (addressed f)
  tells-address (Some t) f h = subst (λ g. Tells (of_value (pointer t)) (addressed g)) (sym (h t refl)) (tells-value (pointer t))

  tells-pointed : (x : Option SourceType) (f : Form) → ((t : SourceType) → x ≡ Some (pointer t) → points f ≡ Some t) → Tells (pointed_place scope (pointed x)) (place_if (points f))
  tells-pointed (Some (pointer t)) f h = subst (λ o. Tells (of_place t) (place_if o)) (sym (h t refl)) (tells-place t)
  tells-pointed None f h = tells-nothing (place_if (points f))
  tells-pointed (Some t) f h = tells-nothing (place_if (points f))

  tells-decayed : (x : Option SourceType) (f : Form) → AtPlace x f → Tells (decayed_type scope x) (decayed f)
  tells-decayed None f h = tells-nothing (decayed f)
  tells-decayed (Some (array t n)) f h = subst (λ g. Tells (of_value (pointer t)) (decayed g)) (sym (h (array t n) refl)) (tells-value (pointer t))
  tells-decayed (Some (const (array t n))) f h = subst (λ g. Tells (of_value (pointer t)) (decayed g)) (sym (h (const (array t n)) refl)) (tells-value (pointer t))
  tells-decayed (Some (takes p t)) f h = subst (λ g. Tells (of_value (pointer (takes p t))) (decayed g)) (sym (h (takes p t) refl)) (tells-value (pointer (takes p t)))
  tells-decayed (Some (gives t c)) f h = subst (λ g. Tells (of_value (pointer (gives t c))) (decayed g)) (sym (h (gives t c) refl)) (tells-value (pointer (gives t c)))
  tells-decayed (Some t) f h = tells-nothing (decayed f)

  tells-there : (x : Option SourceType) (b : Bool) (t : SourceType) (f : Form) → f ≡ place t → Tells (allowed b (of_place t)) f
  tells-there x b t f h = subst (λ g. Tells (allowed b (of_place t)) g) (sym h) (tells-allowed b (of_place t) (place t) (tells-place t))

  tells-stored : (x : Option SourceType) (y : Typing) (f : Form) → AtPlace x f → Tells (stored scope x y) f
  tells-stored None y f h = tells-nothing f
  tells-stored (Some t) y f h = tells-there (Some t) _ t f (h t refl)

  tells-changed : (x : Option SourceType) (b : Bool) (f : Form) → AtPlace x f → Tells (changed_in_place scope x b) f
  tells-changed None b f h = tells-nothing f
  tells-changed (Some t) b f h = tells-there (Some t) b t f (h t refl)

  tells-stepped : (is_postfix : Bool) (c : Change) (x : Option SourceType) (f : Form) → AtPlace x f → Tells (stepped scope is_postfix c x) (stepped_form is_postfix f)
  tells-stepped b c None f h = tells-nothing (stepped_form b f)
  tells-stepped true c (Some t) f h = subst (λ g. Tells (stepped scope true c (Some t)) (loaded g)) (sym (h t refl)) (tells-allowed _ (of_value (plain t)) (valued (plain t)) (tells-value (plain t)))
  tells-stepped false c (Some t) f h = tells-there (Some t) _ t f (h t refl)

  module _ (x y : Typing) (f g : Form) (one : Tells x f) (two : Tells y g) where
    by-first : (t : SourceType) → x.type ≡ Some (pointer t) → points (or_that f g) ≡ Some t
    by-first t e = first-points f g t (one.type t e)

    by-second : is_integer x ≡ true → (t : SourceType) → y.type ≡ Some (pointer t) → points (or_that f g) ≡ Some t
    by-second i t e = second-points f g t (tells-integer x f one i) (two.type t e)

    tells-indexed : Tells (indexed_type scope x y) (place_if (points (or_that f g)))
    tells-indexed = by (points_to_object x && is_integer y) (is_integer x && points_to_object y) refl
      where
        by : (a b : Bool) → (is_integer x && points_to_object y) ≡ b
            → Tells (if a then pointed_place scope (pointed x.type) else (if b then pointed_place scope (pointed y.type) else no_typing)) (place_if (points (or_that f g)))
        by true b is = tells-pointed x.type (or_that f g) by-first
        by false true is = tells-pointed y.type (or_that f g) (by-second (both (is_integer x) (points_to_object y) is).0)
        by false false is = tells-nothing (place_if (points (or_that f g)))

    abbrev moved_type : Option SourceType → Typing
    moved_type x = elim x as (λ y. Typing) [ None ↦ no_typing | Some t ↦ of_value t ]

    tells-moved : (z : Typing) (h : Form) → points_to_object z ≡ true → ((t : SourceType) → z.type ≡ Some (pointer t) → points h ≡ Some t) → Tells (moved_type z.type) (pointer_if (points h))
    tells-moved z h e told =
        let o = object-told z e in
        let is : z.type ≡ Some (pointer o.so.target) = o.is ∙ ap Some o.so.is in
        subst (λ a. Tells (moved_type a) (pointer_if (points h))) (sym is)
        (subst (λ a. Tells (of_value (pointer o.so.target)) (pointer_if a)) (sym (told o.so.target is)) (tells-value (pointer o.so.target)))

    tells-compared : (b : Bool) → Tells (allowed b (of_value (integer Int))) other
    tells-compared b = tells-allowed b (of_value (integer Int)) other (tells-value (integer Int))

    tells-operated : (o : PointerOperator) → Tells (pointer_operated o x y) (moved_by o f g)
    tells-operated ptr.Add = by (points_to_object x && is_integer y) (is_integer x && points_to_object y) refl refl
      where
        by : (a b : Bool) → (points_to_object x && is_integer y) ≡ a → (is_integer x && points_to_object y) ≡ b
            → Tells (if a then moved_type x.type else (if b then moved_type y.type else no_typing)) (pointer_if (points (or_that f g)))
        by true b is _ = tells-moved x (or_that f g) (both (points_to_object x) (is_integer y) is).0 by-first
        by false true _ is =
            let p = both (is_integer x) (points_to_object y) is in tells-moved y (or_that f g) p.1 (by-second p.0)
        by false false _ is = tells-nothing (pointer_if (points (or_that f g)))
    tells-operated ptr.Subtract = by (points_to_object x && is_integer y) refl
      where
        by : (a : Bool) → (points_to_object x && is_integer y) ≡ a → Tells (allowed a (moved_type x.type)) (pointer_if (points f))
        by true is = tells-moved x f (both (points_to_object x) (is_integer y) is).0 one.type
        by false is = tells-nothing (pointer_if (points f))
    tells-operated ptr.Equal = tells-compared _
    tells-operated ptr.NotEqual = tells-compared _
    tells-operated ptr.Difference = tells-compared _
    tells-operated ptr.Less = tells-compared _
    tells-operated ptr.Greater = tells-compared _
    tells-operated ptr.LessEqual = tells-compared _
    tells-operated ptr.GreaterEqual = tells-compared _

    -- ---- one of two

    abbrev agreed : Option SourceType → Typing → Option SourceType
    agreed None z = None
    agreed (Some t) z = if z.value t then Some t else None

    -- the type of both, with what the other has
    common : (a b : Option SourceType) (t : SourceType) → both_types a b ≡ Some t → (a ≡ Some t) × ((u : SourceType) × (b ≡ Some u) × (same_but_const t u ≡ true))
    common None b t e = absurd (none-is t e)
    common (Some u) None t e = absurd (none-is t e)
    common (Some u) (Some v) t e = by_test (same_but_const u v) refl e
      where
        by_test : (b : Bool) → same_but_const u v ≡ b → (if b then Some u else None) ≡ Some t → (Some u ≡ Some t) × ((w : SourceType) × (Some v ≡ Some w) × (same_but_const t w ≡ true))
        by_test true same e = (e, (v, refl, subst (λ a. same_but_const a v ≡ true) (of-some u t e) same))
        by_test false same e = absurd (none-is t e)

    agreed-told : (a : Option SourceType) (z : Typing) (t : SourceType) → agreed a z ≡ Some t → (a ≡ Some t) × (z.value t ≡ true)
    agreed-told None z t e = absurd (none-is t e)
    agreed-told (Some u) z t e = by_test (z.value u) refl e
      where
        by_test : (b : Bool) → z.value u ≡ b → (if b then Some u else None) ≡ Some t → (Some u ≡ Some t) × (z.value t ≡ true)
        by_test true is e = (e, subst (λ a. z.value a ≡ true) (of-some u t e) is)
        by_test false is e = absurd (none-is t e)

    or-else : (a b : Option SourceType) (Q : Type 0) (t : SourceType) → (a ≡ Some t → Q) → (a ≡ None → b ≡ Some t → Q) → or_else a b ≡ Some t → Q
    or-else None b Q t h k e = k refl e
    or-else (Some u) b Q t h k e = h e

    both-same : (a b : Option SourceType) (u v : SourceType) → a ≡ Some u → b ≡ Some v → same_but_const u v ≡ true → both_types a b ≡ Some u
    both-same a b u v p q e =
        subst (λ o. both_types o b ≡ Some u) (sym p) (subst (λ o. both_types (Some u) o ≡ Some u) (sym q) (ap (λ c. if c then Some u else None) e))

    neither : f ≡ other → g ≡ other → or_that f g ≡ other
    neither p q = ap (λ a. or_that a g) p ∙ q

    -- the second has a pointer's type, and the first none that is like it
    not-alone : (t : SourceType) → both_types x.type y.type ≡ None → y.type ≡ Some (pointer t) → x.value (pointer t) ≡ true → ⊥
    not-alone t none is v =
        let p = one.valued t v in none-is p.of (sym none ∙ both-same x.type y.type p.of (pointer t) p.is is p.same)

    tells-either : Tells (either x y) (or_that f g)
    tells-either = record {
      place = λ t e. ap (λ a. or_that a g) (one.place t (common x.place y.place t e).0);
      type = λ t e. or-else (both_types x.type y.type) (or_else (agreed x.type y) (agreed y.type x)) (points (or_that f g) ≡ Some t) (pointer t)
          (λ e. by-first t (common x.type y.type (pointer t) e).0)
          (λ none e. or-else (agreed x.type y) (agreed y.type x) (points (or_that f g) ≡ Some t) (pointer t)
          (λ e. by-first t (agreed-told x.type y (pointer t) e).0)
          (λ _ e. let p = agreed-told y.type x (pointer t) e in absurd (not-alone t none p.0 p.1)) e) e;
      integral = λ t i e. or-else (both_types x.type y.type) (or_else (agreed x.type y) (agreed y.type x)) (or_that f g ≡ other) t
          (λ e. let p = common x.type y.type t e in neither (one.integral t i p.0) (two.integral p.1.0 (sym (ap is_integral (same-types t p.1.0 p.1.2)) ∙ i) p.1.1))
          (λ _ e. or-else (agreed x.type y) (agreed y.type x) (or_that f g ≡ other) t
          (λ e. let p = agreed-told x.type y t e in neither (one.integral t i p.0) (two.held t i p.1))
          (λ _ e. let p = agreed-told y.type x t e in neither (one.held t i p.1) (two.integral t i p.0)) e) e;
      number = λ z e. absurd (none-is z e);
      held = λ t i e. let p = both (x.value t) (y.value t) e in neither (one.held t i p.0) (two.held t i p.1);
      valued = λ t e.
          let p = both (x.value (pointer t)) (y.value (pointer t)) e in
          let a = one.valued t p.0 in
          let b = two.valued t p.1 in
          let same = same-told a.of b.of (same-types a.of (pointer t) a.same ∙ sym (same-types b.of (pointer t) b.same)) in
          record { of = a.of; is = ap (λ o. or_else o (or_else (agreed x.type y) (agreed y.type x))) (both-same x.type y.type a.of b.of a.is b.is same); same = a.same };
    }

-- ---- nodes

module _ (P : Program) (scope : Scope) where
  tells-integral : (b : Bool) (t : SourceType) → valued t ≡ other → Tells (allowed b (of_value t)) other
  tells-integral b t e = tells-allowed b (of_value t) other (subst (λ f. Tells (of_value t) f) e (tells-value t))

  operated-other : (op : Arith) (k : Kind) → valued (operated_type op k) ≡ other
  operated-other op k = by_test (is_comparison op)
    where
      by_test : (b : Bool) → valued (if b then integer Int else integer k) ≡ other
      by_test true = refl
      by_test false = refl

  mutual
    pub tells : (e : Core) → is_simple P scope e ≡ true → Tells (typing scope e) (form scope.locals e)
    tells (core.number z) ok = tells-number z
    tells (core.text j bytes) ok = tells-place (array (integer Char) (length bytes))
    tells (core.local i) ok = tells-name (slice_get scope.locals i)
    tells (core.static_object n t) ok = tells-name (Some t)
    tells (core.function n t) ok = tells-allowed _ (of_place t) (place t) (tells-place t)
    tells (core.read e) ok = tells-read scope (typing scope e).place (form scope.locals e) (tells e ok).place
    tells (core.address e) ok = tells-address scope (typing scope e).place (form scope.locals e) (tells e ok).place
    tells (core.dereference e) ok = tells-pointed scope (typing scope e).type (form scope.locals e) (tells e ok).type
    tells (core.decay e) ok = tells-decayed scope (typing scope e).place (form scope.locals e) (tells e ok).place
    tells (core.from_void t e) ok = tells-allowed _ (of_value (pointer t)) (pointer_to t) (tells-value (pointer t))
    tells (core.index a b) ok =
        let p = both (is_simple P scope a) (is_simple P scope b) ok in
        tells-indexed scope (typing scope a) (typing scope b) (form scope.locals a) (form scope.locals b) (tells a p.0) (tells b p.1)
    tells (core.pointer_operate op a b) ok =
        let p = both (is_simple P scope a) (is_simple P scope b) ok in
        tells-operated scope (typing scope a) (typing scope b) (form scope.locals a) (form scope.locals b) (tells a p.0) (tells b p.1) op
    tells (core.convert t e) ok =
        tells-allowed _ (null_if _ (of_value (plain t))) (valued (plain t)) (tells-null _ (of_value (plain t)) (valued (plain t)) (tells-value (plain t)))
    tells (core.operate op k a b) ok = tells-integral _ (operated_type op k) (operated-other op k)
    tells (core.unary op k e) ok = tells-integral _ (integer k) refl
    tells (core.logical_not e) ok = tells-integral _ (integer Int) refl
    tells (core.logical_and a b) ok = tells-integral _ (integer Int) refl
    tells (core.logical_or a b) ok = tells-integral _ (integer Int) refl
    tells (core.conditional c a b) ok =
        let p = both (is_simple P scope c) (is_simple P scope a && is_simple P scope b) ok in
        let q = both (is_simple P scope a) (is_simple P scope b) p.1 in
        tells-allowed _ (either (typing scope a) (typing scope b)) (or_that (form scope.locals a) (form scope.locals b))
        (tells-either scope (typing scope a) (typing scope b) (form scope.locals a) (form scope.locals b) (tells a q.0) (tells b q.1))
    tells (core.comma es) ok = tells-last other es ok
    tells (core.store a b) ok =
        let p = both (is_simple P scope a) (is_simple P scope b) ok in tells-stored scope (typing scope a).place (typing scope b) (form scope.locals a) (tells a p.0).place
    tells (core.update a c b) ok =
        let p = both (is_simple P scope a) (is_simple P scope b) ok in tells-changed scope (typing scope a).place _ (form scope.locals a) (tells a p.0).place
    tells (core.step is_postfix c e) ok = tells-stepped scope is_postfix c (typing scope e).place (form scope.locals e) (tells e ok).place
    tells (core.temporary t e) ok = tells-allowed _ (of_place t) (place t) (tells-place t)
    tells (core.bind no_temporary e) ok = tells-start _ other
    tells (core.call n t absent es) ok = tells-allowed _ (of_result (result t)) (given_back (result t)) (tells-result (result t))
    tells (core.pointer_call absent e t es) ok = tells-allowed _ (of_result (result t)) (given_back (result t)) (tells-result (result t))
    tells e ok = absurd (no-test ok)

    tells-last : (x : Form) (es : Cores) → are_simple P scope es ≡ true → Tells (last_typing scope es) (last_form scope.locals x es)
    tells-last x core.none ok = absurd (no-test ok)
    tells-last x (core.more e core.none) ok = tells e ok
    tells-last x (core.more e (core.more f es)) ok =
        let p = both (is_simple P scope e) (are_simple P scope (core.more f es)) ok in
        tells-allowed _ (last_typing scope (core.more f es)) (last_form scope.locals x (core.more f es)) (tells-last x (core.more f es) p.1)

  -- what the form of a simple node does not show to be a pointer to a function is none
  pub keeps-typed : (t : SourceType) (e : Core) → is_simple P scope e ≡ true → keeps_functions P scope t e ≡ true
      → not (leads_to_void (plain t) && leads_to_function (pointed (typing scope e).type)) ≡ true
  keeps-typed t e ok keeps = by_void (leads_to_void (plain t)) keeps
    where
      by_type : (o : Option SourceType) → (typing scope e).type ≡ o → not (leads_to_function (points (form scope.locals e))) ≡ true → not (leads_to_function (pointed o)) ≡ true
      by_type (Some (pointer u)) is keeps = ap (λ a. not (leads_to_function a)) (sym ((tells e ok).type u is)) ∙ keeps
      by_type None is keeps = refl
      by_type (Some u) is keeps = refl

      by_void : (b : Bool) → not (b && leads_to_function (points (form scope.locals e))) ≡ true → not (b && leads_to_function (pointed (typing scope e).type)) ≡ true
      by_void true keeps = by_type (typing scope e).type refl keeps
      by_void false keeps = refl
