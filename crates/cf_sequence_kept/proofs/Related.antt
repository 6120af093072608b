-- What a register holds for a node of an expression, by what the node is.
use Rattle.std.proofs.Common.{◌≡◌, Bool, true, false, ◌&&◌, ◌||◌, if◌then◌else◌, refl, ap, ◌∙◌, subst}
use Rattle.std.specs.Prelude.{ℕ, ℤ, Option, Some, None, is_some, slice_get}
use Rattle.cf_base.specs.declared.kind.Kind.{Kind}
use Rattle.cf_base.specs.declared.kind.Kind.TheVariants.{Int, ULong}
use Rattle.cf_base.specs.declared.arith.Arith.{Arith}
use Rattle.cf_base.specs.Integers.{fits}
use Rattle.cf_base.proofs.Tests.{both, all_of}
use Rattle.cf_types.specs.Operators.{is_shift}
use Rattle.cf_core.specs.Types.{SourceType, void, integer, enumeration, class, pointer, reference, array, takes, gives, data_member, function_member, const, same_but_const, is_class, result}
use Rattle.cf_core.specs.Core.{no_temporary, local_temporary}
use Rattle.cf_core.specs.Places.{is_scalar}
use Rattle.cf_core.specs.Typing.{Scope, Typing, no_typing, allowed, is_function, same_type, of_start, of_value, null_if, of_number, holds_number, of_place, of_name, of_result, is_integer, integral_type, scalar_type, is_condition, is_right_operand, or_else, either}
use Rattle.cf_core.specs.Typing as typing
use Rattle.cf_core.specs.Typed.{binds}
use Rattle.cf_plain_kept.specs.Kept.{Kept, no_value, an_integer, a_place, a_member, value_of, suits, both_kept, named, integer_in, has_kind, right_has, given, pointed_call, tested, a_truth}
use Rattle.cf_sequence.proofs.Calling.{never}
use Rattle.cf_sequence.proofs.SameTypes.{same-itself}
use Rattle.cf_sequence_kept.proofs.Suits.{same-turned, same-then, suits-same, own-suits, refers-too, scalar-tested, integer-kept, enumerator-kept, integer-tested}
use Rattle.cf_sequence_valid.proofs.Serves.{Serves, as_place, of_type, as_number, as_value, as_start, either-true}

pub record Relates (x : Typing) (h : Kept) : Type 0 where
  pub place : (t : SourceType) → x.place ≡ Some t → suits (pointer t) h ≡ true
  pub type : (t : SourceType) → x.type ≡ Some t → suits t h ≡ true
  pub number : (z : ℤ) → x.number ≡ Some z → integer_in (Some h) ≡ true
  pub value : (t : SourceType) → x.value t ≡ true → suits t h ≡ true
  pub start : (t : SourceType) → x.start t ≡ true → suits t h ≡ true
  pub scalar : (t : SourceType) → x.start t ≡ true → is_scalar t ≡ true

same-type : (t u : SourceType) → Some t ≡ Some u → t ≡ u
same-type t u e = cc

-- Forms.

pub of-value : (t : SourceType) (h : Kept) → suits t h ≡ true → Relates (of_value t) h
of-value t h is = record {
  place = λ u e. absurd (cc);
  type = λ u e. subst (λ z. suits z h ≡ true) (same-type t u e) is;
  number = λ z e. absurd (cc);
  value = λ u ok. suits-same t u h ok is;
  start = λ u ok. suits-same t u h (both (is_scalar u) (same_but_const t u) ok).1 is;
  scalar = λ u ok. (both (is_scalar u) (same_but_const t u) ok).0;
}

pub of-null : (b : Bool) (t : SourceType) (h : Kept) → suits t h ≡ true → Relates (null_if b (of_value t)) h
of-null b t h is =
    let v = of-value t h is in record { place = v.place; type = v.type; number = v.number; value = v.value; start = v.start; scalar = v.scalar }

number-suits : (z : ℤ) (t : SourceType) → holds_number z t ≡ true → suits t (an_integer (λ k. fits k z)) ≡ true
number-suits z (integer k) ok = ok
number-suits z (enumeration e) ok = ok
number-suits z (const t) ok = number-suits z t ok
number-suits z t ok = never ok

number-scalar : (z : ℤ) (t : SourceType) → holds_number z t ≡ true → is_scalar t ≡ true
number-scalar z (integer k) ok = refl
number-scalar z (enumeration e) ok = refl
number-scalar z (const t) ok = number-scalar z t ok
number-scalar z t ok = never ok

pub of-number : (z : ℤ) → Relates (of_number z) (an_integer (λ k. fits k z))
of-number z = record {
  place = λ u e. absurd (cc);
  type = λ u e. absurd (cc);
  number = λ y e. refl;
  value = number-suits z;
  start = number-suits z;
  scalar = number-scalar z;
}

pub of-place : (t : SourceType) (h : Kept) → suits (pointer t) h ≡ true → Relates (of_place t) h
of-place t h is = by (is_function t)
  where
    v : Relates (of_value (pointer t)) h
    v = of-value (pointer t) h is

    by : (b : Bool) → Relates (elim b as (λ b. Typing) [ true ↦ record (of_value (pointer t)) { place = Some t } | false ↦ record no_typing { place = Some t } ]) h
    by true = record {
      place = λ u e. subst (λ z. suits (pointer z) h ≡ true) (same-type t u e) is;
      type = v.type;
      number = v.number;
      value = v.value;
      start = v.start;
      scalar = v.scalar;
    }
    by false = record {
      place = λ u e. subst (λ z. suits (pointer z) h ≡ true) (same-type t u e) is;
      type = λ u e. absurd (cc);
      number = λ z e. absurd (cc);
      value = λ u ok. never ok;
      start = λ u ok. never ok;
      scalar = λ u ok. never ok;
    }

-- what a name stands for
pub record Names (t : SourceType) : Type 0 where
  pub kept : Kept
  pub is : named (Some t) ≡ Some kept
  pub related : Relates (of_name (Some t)) kept

pub of-name : (t : SourceType) → Names t
of-name (reference t) = record { kept = a_place t; is = refl; related = of-place t (a_place t) (same-itself t) }
of-name t = record { kept = a_place t; is = refl; related = of-place t (a_place t) (same-itself t) }

pub of-result : (t : SourceType) → is_class t ≡ false → Relates (of_result t) (value_of t)
of-result (reference t) e = of-place t (a_place t) (same-itself t)
of-result (class c) e = absurd (cc)
of-result (const t) e = of-result t e
of-result t e = of-value t (value_of t) (own-suits t)

pub of-allowed : (b : Bool) (x : Typing) (h : Kept) → b ≡ true → Relates x h → Relates (allowed b x) h
of-allowed true x h ok r = r
of-allowed false x h ok r = never ok

bound-suits : (scope : Scope) (x : Typing) (h : Kept) → Relates x h → (t : SourceType) → binds scope no_temporary x t ≡ true → suits t h ≡ true
bound-suits scope x h r (reference t) ok = by x.place refl ok
  where
    by : (o : Option SourceType) → x.place ≡ o → same_type o t ≡ true → suits (reference t) h ≡ true
    by None e ok = never ok
    by (Some u) e ok = refers-too t h (suits-same (pointer u) (pointer t) h ok (r.place u e))
bound-suits scope x h r (const t) ok = bound-suits scope x h r t ok
bound-suits scope x h r t ok = never ok

bound-scalar : (scope : Scope) (x : Typing) (t : SourceType) → binds scope no_temporary x t ≡ true → is_scalar t ≡ true
bound-scalar scope x (reference t) ok = refl
bound-scalar scope x (const t) ok = bound-scalar scope x t ok
bound-scalar scope x t ok = never ok

pub of-bind : (scope : Scope) (x : Typing) (h : Kept) → Relates x h → Relates (of_start (binds scope no_temporary x)) h
of-bind scope x h r = record {
  place = λ u e. absurd (cc);
  type = λ u e. absurd (cc);
  number = λ z e. absurd (cc);
  value = λ u ok. never ok;
  start = bound-suits scope x h r;
  scalar = bound-scalar scope x;
}

-- the place of a temporary, whose type is the local's
pub held-suits : (scope : Scope) (j : ℕ) (u : SourceType) (x : Typing) (t : SourceType) → binds scope (local_temporary j u) x t ≡ true
    → (v : SourceType) → same_but_const v u ≡ true → suits t (a_place v) ≡ true
held-suits scope j u x (reference t) ok v same =
    let parts = both (same_but_const u t && same_type (slice_get scope.locals j) u) (x.start u) ok in
    same-then v u t same (both (same_but_const u t) (same_type (slice_get scope.locals j) u) parts.0).0
held-suits scope j u x (const t) ok v same = held-suits scope j u x t ok v same
held-suits scope j u x t ok v same = never ok

-- Operands.

pub integers-kept : (x : Typing) (h : Kept) → Relates x h → is_integer x ≡ true → integer_in (Some h) ≡ true
integers-kept x h r ok =
    either-true (integral_type x.type || is_some x.number || x.value (integer Int)) (x.value (integer ULong)) ok
    (λ a.
    either-true (integral_type x.type || is_some x.number) (x.value (integer Int)) a
    (λ b. either-true (integral_type x.type) (is_some x.number) b (typed x.type refl) (numbered x.number refl)) (λ v. integer-kept Int h (r.value (integer Int) v)))
    (λ v. integer-kept ULong h (r.value (integer ULong) v))
  where
    typed : (o : Option SourceType) → x.type ≡ o → integral_type o ≡ true → integer_in (Some h) ≡ true
    typed None e ok = never ok
    typed (Some (integer k)) e ok = integer-kept k h (r.type (integer k) e)
    typed (Some (enumeration n)) e ok = enumerator-kept n h (r.type (enumeration n) e)
    typed (Some t) e ok = never ok

    numbered : (o : Option ℤ) → x.number ≡ o → is_some o ≡ true → integer_in (Some h) ≡ true
    numbered None e ok = never ok
    numbered (Some z) e ok = r.number z e

pub conditions-kept : (x : Typing) (h : Kept) → Relates x h → is_condition x ≡ true → tested (Some h) ≡ Some a_truth
conditions-kept x h r ok = either-true (is_integer x) (scalar_type x.type) ok (λ i. integer-tested h (integers-kept x h r i)) (typed x.type refl)
  where
    typed : (o : Option SourceType) → x.type ≡ o → scalar_type o ≡ true → tested (Some h) ≡ Some a_truth
    typed None e ok = never ok
    typed (Some t) e ok = scalar-tested t h ok (r.type t e)

kind-kept : (k : Kind) (h : Kept) → suits (integer k) h ≡ true → has_kind k (Some h) ≡ true
kind-kept k (an_integer f) ok = ok
kind-kept k h ok = never ok

pub has-kind : (k : Kind) (x : Typing) (h : Kept) → Relates x h → x.value (integer k) ≡ true → has_kind k (Some h) ≡ true
has-kind k x h r ok = kind-kept k h (r.value (integer k) ok)

pub right-kept : (op : Arith) (k : Kind) (x : Typing) (h : Kept) → Relates x h → is_right_operand op k x ≡ true → right_has op k (Some h) ≡ true
right-kept op k x h r ok = by (is_shift op) ok
  where
    by : (b : Bool) → (if b then is_integer x else x.value (integer k)) ≡ true → (if b then integer_in (Some h) else has_kind k (Some h)) ≡ true
    by true ok = integers-kept x h r ok
    by false ok = has-kind k x h r ok

-- Choices (5.16).

-- what two ways hold
pub record Joined (x y : Kept) : Type 0 where
  pub kept : Kept
  pub is : both_kept x y ≡ Some kept
  pub suits_both : (t : SourceType) → suits t x ≡ true → suits t y ≡ true → suits t kept ≡ true

joined-integers : (f g : Kind → Bool) → Joined (an_integer f) (an_integer g)
joined-integers f g = record { kept = an_integer (λ k. f k && g k); is = refl; suits_both = all-suit }
  where
    all-suit : (t : SourceType) → suits t (an_integer f) ≡ true → suits t (an_integer g) ≡ true → suits t (an_integer (λ k. f k && g k)) ≡ true
    all-suit (integer k) p q = all_of (f k) (g k) p q
    all-suit (enumeration e) p q = all_of (f Int) (g Int) p q
    all-suit (const t) p q = all-suit t p q
    all-suit t p q = never p

joined-places : (t u : SourceType) → same_but_const t u ≡ true → Joined (a_place t) (a_place u)
joined-places t u e = record { kept = a_place t; is = ap (λ b. if b then Some (a_place t) else None) e; suits_both = λ v p q. p }

joined-members : (t u : SourceType) → same_but_const t u ≡ true → Joined (a_member t) (a_member u)
joined-members t u e = record { kept = a_member t; is = ap (λ b. if b then Some (a_member t) else None) e; suits_both = λ v p q. p }

joined-none : Joined no_value no_value
joined-none = record { kept = no_value; is = refl; suits_both = λ v p q. p }

-- values of one type
joined-suits : (t : SourceType) (x y : Kept) → suits t x ≡ true → suits t y ≡ true → Joined x y
joined-suits (const t) x y p q = joined-suits t x y p q
joined-suits (integer k) (an_integer f) (an_integer g) p q = joined-integers f g
joined-suits (enumeration e) (an_integer f) (an_integer g) p q = joined-integers f g
joined-suits (pointer t) (a_place u) (a_place v) p q = joined-places u v (same-then u t v p (same-turned v t q))
joined-suits (reference t) (a_place u) (a_place v) p q = joined-places u v (same-then u t v p (same-turned v t q))
joined-suits (data_member c t) (a_member u) (a_member v) p q = joined-members u v (same-then u (data_member c t) v p (same-turned v (data_member c t) q))
joined-suits (function_member c t) (a_member u) (a_member v) p q =
    joined-members u v (same-then u (function_member c t) v p (same-turned v (function_member c t) q))
joined-suits void no_value no_value p q = joined-none
joined-suits (class c) no_value no_value p q = joined-none
joined-suits (array t n) no_value no_value p q = joined-none
joined-suits (takes a t) no_value no_value p q = joined-none
joined-suits (gives t c) no_value no_value p q = joined-none
joined-suits t x y p q = absurd (cc)

some-if : {A : Type 0} (b : Bool) (a t : A) → (if b then Some a else None) ≡ Some t → (b ≡ true) × (a ≡ t)
some-if true a t e = (refl, cc)
some-if false a t e = absurd (cc)

module _ (x y : Typing) (h k : Kept) (r : Relates x h) (q : Relates y k) where
  abbrev Both : SourceType → Type 0
  Both t = (suits t h ≡ true) × (suits t k ≡ true)

  place-suits : (t : SourceType) → typing.both x.place y.place ≡ Some t → Both (pointer t)
  place-suits t is = by x.place y.place refl refl is
    where
      by : (o p : Option SourceType) → x.place ≡ o → y.place ≡ p → typing.both o p ≡ Some t → Both (pointer t)
      by None p e f is = absurd (cc)
      by (Some a) None e f is = absurd (cc)
      by (Some a) (Some b) e f is =
          let c = some-if (same_but_const a b) a t is in
          subst (λ z. Both (pointer z)) c.1 (r.place a e, suits-same (pointer b) (pointer a) k (same-turned a b c.0) (q.place b f))

  type-suits : (t : SourceType) → (either x y).type ≡ Some t → Both t
  type-suits t is = by x.type y.type refl refl is
    where
      left : (a : SourceType) → x.type ≡ Some a → (if y.value a then Some a else None) ≡ Some t → Both t
      left a e is = let c = some-if (y.value a) a t is in subst Both c.1 (r.type a e, q.value a c.0)

      right : (b : SourceType) → y.type ≡ Some b → (if x.value b then Some b else None) ≡ Some t → Both t
      right b f is = let c = some-if (x.value b) b t is in subst Both c.1 (r.value b c.0, q.type b f)

      none-left : (o : Option SourceType) → or_else o None ≡ Some t → o ≡ Some t
      none-left None e = e
      none-left (Some a) e = e

      agreed : (a b : SourceType) → x.type ≡ Some a → y.type ≡ Some b → (v : Bool) → y.value a ≡ v
          → or_else (if v then Some a else None) (if x.value b then Some b else None) ≡ Some t → Both t
      agreed a b e f true v is = left a e (ap (λ z. if z then Some a else None) v ∙ is)
      agreed a b e f false v is = right b f is

      typed : (a b : SourceType) → x.type ≡ Some a → y.type ≡ Some b → (v : Bool) → same_but_const a b ≡ v
          → or_else (if v then Some a else None) (or_else (if y.value a then Some a else None) (if x.value b then Some b else None)) ≡ Some t → Both t
      typed a b e f true v is =
          let c = some-if true a t is in subst Both c.1 (r.type a e, suits-same b a k (same-turned a b v) (q.type b f))
      typed a b e f false v is = agreed a b e f (y.value a) refl is

      by : (o p : Option SourceType) → x.type ≡ o → y.type ≡ p → (either (record x { type = o }) (record y { type = p })).type ≡ Some t → Both t
      by None None e f is = absurd (cc)
      by None (Some b) e f is = right b f is
      by (Some a) None e f is = left a e (none-left (if y.value a then Some a else None) is)
      by (Some a) (Some b) e f is = typed a b e f (same_but_const a b) refl is

  value-suits : (t : SourceType) → x.value t && y.value t ≡ true → Both t
  value-suits t ok = let p = both (x.value t) (y.value t) ok in (r.value t p.0, q.value t p.1)

  start-suits : (t : SourceType) → (either x y).start t ≡ true → Both t
  start-suits t ok = let p = both (is_scalar t && x.value t) (y.value t) ok in (r.value t (both (is_scalar t) (x.value t) p.0).1, q.value t p.1)

  pub either-joins : Serves (either x y) → Joined h k
  either-joins (as_place t e) = let b = place-suits t e in joined-suits (pointer t) h k b.0 b.1
  either-joins (of_type t e) = let b = type-suits t e in joined-suits t h k b.0 b.1
  either-joins (as_number z e) = absurd (cc)
  either-joins (as_value t e) = let b = value-suits t e in joined-suits t h k b.0 b.1
  either-joins (as_start t e) = let b = start-suits t e in joined-suits t h k b.0 b.1

  pub of-either : (j : Joined h k) → Relates (either x y) j.kept
  of-either j = record {
    place = λ t e. let b = place-suits t e in j.suits_both (pointer t) b.0 b.1;
    type = λ t e. let b = type-suits t e in j.suits_both t b.0 b.1;
    number = λ z e. absurd (cc);
    value = λ t ok. let b = value-suits t ok in j.suits_both t b.0 b.1;
    start = λ t ok. let b = start-suits t ok in j.suits_both t b.0 b.1;
    scalar = λ t ok. (both (is_scalar t) (x.value t) (both (is_scalar t && x.value t) (y.value t) ok).0).0;
  }

-- what is called through a pointer is a function of its type

pub called-suits : (x : Typing) (h : Kept) → Relates x h → (t : SourceType) → (x.value (pointer t) || same_type x.place t) ≡ true → suits (pointer t) h ≡ true
called-suits x h r t ok = either-true (x.value (pointer t)) (same_type x.place t) ok (r.value (pointer t)) (by x.place refl)
  where
    by : (o : Option SourceType) → x.place ≡ o → same_type o t ≡ true → suits (pointer t) h ≡ true
    by None e ok = never ok
    by (Some u) e ok = suits-same (pointer u) (pointer t) h ok (r.place u e)

pub called-kept : (t : SourceType) (h : Kept) → suits (pointer t) h ≡ true → pointed_call t (Some h) ≡ Some (value_of (result t))
called-kept t (a_place u) ok = ap (λ b. given b (value_of (result t))) ok
called-kept t h ok = never ok

pub called-tested : (t : SourceType) (h : Kept) → suits (pointer t) h ≡ true → tested (Some h) ≡ Some a_truth
called-tested t (a_place u) ok = refl
called-tested t h ok = never ok
