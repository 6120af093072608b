-- What is told of the operands is told of what actions make of them.
use Rattle.std.proofs.Common.{◌≡◌, ℕ, Bool, true, false, not, ◌&&◌, ◌||◌, if◌then◌else◌, refl, sym, ◌∙◌, ap, subst}
use Rattle.std.specs.Prelude.{Option, Some, None, slice_get}
use Rattle.cf_base.specs.declared.kind.Kind.{Kind}
use Rattle.cf_base.specs.declared.kind.Kind.TheVariants.{Int}
use Rattle.cf_base.specs.declared.arith.Arith.{Arith}
use Rattle.cf_base.specs.declared.arith.Arith.TheVariants as op
use Rattle.cf_base.proofs.Tests.{both}
use Rattle.cf_core.specs.declared.operators.PointerOperator.{PointerOperator}
use Rattle.cf_core.specs.declared.operators.PointerOperator.TheVariants as pointer_op
use Rattle.cf_core.specs.Types.{SourceType, void, integer, enumeration, pointer, reference, array, takes, gives, data_member, function_member, const, without_const, is_void, same_but_const, type_eq}
use Rattle.cf_core.specs.Typing.{is_comparison}
use Rattle.cf_core.specs.Places.{is_reference, is_scalar}
use Rattle.cf_lower_layout.specs.Sorts.{Sort, address, code, sort_to}
use Rattle.cf_lower_layout.proofs.Types.{same-type, without-twice}
use Rattle.cf_plain_kept.specs.Kept as plain
use Rattle.cf_lower.specs.Kept as lower
use Rattle.cf_lower.specs.Kept.{Kept, integer_of, holds, Locals}
use Rattle.cf_lower_kept.specs.Ready.{is_code, names_well, names_well_if, has_objects, decays_well, is_object, of_place, operands_ready, is_the_type}
use Rattle.cf_lower_kept.specs.Told.{IsObject, Told, ToldIf}

-- ---- types

no-not : (b : Bool) → not b ≡ true → b ≡ false
no-not true e = absurd (cc)
no-not false e = refl

-- what points to a place is no number
pub holds-sort : (t : SourceType) → lower.of_sort (Some (sort_to t)) ≡ holds (sort_to t)
holds-sort (takes p t) = refl
holds-sort (gives t c) = refl
holds-sort t = refl

pub address-sort : (t : SourceType) → is_code t ≡ false → sort_to (without_const t) ≡ address (without_const t)
address-sort (takes p t) e = absurd (cc)
address-sort (gives t c) e = absurd (cc)
address-sort (const t) e = address-sort t e
address-sort t e = refl

pub code-sort : (t : SourceType) → is_code t ≡ true → sort_to (without_const t) ≡ code (without_const t)
code-sort (takes p t) e = refl
code-sort (gives t c) e = refl
code-sort (const t) e = code-sort t e
code-sort t e = absurd (cc)

type-itself : (t u : SourceType) → type_eq t u ≡ true → t ≡ u
type-itself t u e = same-type t u e

the-type : (o : Option SourceType) (t : SourceType) → is_the_type o t ≡ true → o ≡ Some t
the-type None t e = absurd (cc)
the-type (Some u) t e = ap (λ (v : SourceType). Some v) (same-type u t e)

module _ (locals : Locals) where
  given-told : (b : Bool) (x : plain.Kept) (y : Kept) → Told locals x y → ToldIf locals (plain.given b x) y
  given-told true x y h = h
  given-told false x y h = tt

  -- a number of a kind
  pub of-kind : (k : Kind) → Told locals (plain.of_kind k) (lower.of_kind k)
  of-kind k = record { kinds = lower.within k; is = refl; has = λ j e. e }

  pub a-truth : Told locals plain.a_truth lower.a_truth
  a-truth = record { kinds = λ k. true; is = refl; has = λ j e. e }

  int-truth : Told locals (plain.of_kind Int) lower.a_truth
  int-truth = record { kinds = λ k. true; is = refl; has = λ j e. refl }

  -- ---- values of types

  pointer-told : (t : SourceType) → lower.of_sort (Some (sort_to (without_const t))) ≡ holds (sort_to (without_const t))
  pointer-told t = holds-sort (without_const t)

  -- what a call gives
  pub value-told : (t : SourceType) → Told locals (plain.value_of t) (lower.of_type t)
  value-told (integer k) = of-kind k
  value-told (enumeration e) = of-kind Int
  value-told (pointer t) = pointer-told t
  value-told (reference t) = pointer-told t
  value-told (data_member c t) = tt
  value-told (function_member c t) = tt
  value-told (const t) = value-told t
  value-told t = tt

  read-pointer : (t : SourceType) → lower.of_sort (Some (sort_to (without_const (without_const t)))) ≡ holds (sort_to (without_const t))
  read-pointer t = ap (λ u. lower.of_sort (Some (sort_to u))) (without-twice t) ∙ pointer-told t

  read-type : (t : SourceType) → ToldIf locals (plain.kept_of t) (lower.read_kept (holds (sort_to (without_const t))))
  read-type (integer k) = of-kind k
  read-type (enumeration e) = of-kind Int
  read-type (pointer t) = read-pointer t
  read-type (reference t) = read-pointer t
  read-type (data_member c t) = tt
  read-type (function_member c t) = tt
  read-type (const t) = read-type t
  read-type t = tt

  pub read-told : (o : Option plain.Kept) (y : Kept) → ToldIf locals o y → ToldIf locals (plain.read_kept o) (lower.read_kept y)
  read-told (Some (plain.a_place t)) y h = subst (λ z. ToldIf locals (plain.kept_of t) (lower.read_kept z)) (sym h) (read-type t)
  read-told o y h = tt

  -- ---- names

  pub named-told : (t : SourceType) → names_well t ≡ true → ToldIf locals (plain.named (Some t)) (lower.place_of t)
  named-told (reference t) e = refl
  named-told (const t) e =
      ap (λ b. holds (sort_to (without_const (if b then lower.referred t else const t)))) (no-not (is_reference t) e)
  named-told t e = refl

  pub local-told : (o : Option SourceType) → names_well_if o ≡ true → ToldIf locals (plain.named o) (lower.place_of (lower.type_or_void o))
  local-told None e = tt
  local-told (Some t) e = named-told t e

  -- ---- pointers

  pub pointed-told : (o : Option plain.Kept) (y : Kept) → ToldIf locals o y → ToldIf locals (plain.pointed_kept o) y
  pointed-told (Some (plain.a_place t)) y h = h
  pointed-told o y h = tt

  decayed-type : (t : SourceType) → has_objects t ≡ true → ToldIf locals (plain.decayed t) (lower.decayed_kept (holds (sort_to (without_const t))))
  decayed-type (array t n) e = ap (λ (s : Sort). holds s) (sym (address-sort t (no-not (is_code t) e)))
  decayed-type (takes p t) e = refl
  decayed-type (gives t c) e = refl
  decayed-type (const t) e = decayed-type t e
  decayed-type t e = tt

  -- an array that is declared is no scalar, so its place is told
  object-type : (b : Bool) (i : ℕ) (t u : SourceType) → has_objects t ≡ true → is_code t ≡ false
      → ToldIf locals (plain.decayed t) (lower.decayed_kept (if b && is_scalar t then lower.argument i u else holds (address (without_const t))))
  object-type true i (array t n) u e h = decayed-type (array t n) e
  object-type false i (array t n) u e h = decayed-type (array t n) e
  object-type b i (takes p t) u e h = absurd (cc)
  object-type b i (gives t c) u e h = absurd (cc)
  object-type b i (const t) u e h = object-type b i t u e h
  object-type b i t u e h = tt

  object-told : (i : ℕ) (t : SourceType) (y : Kept) → IsObject locals i t y → has_objects t && not (is_code t) ≡ true
      → ToldIf locals (plain.decayed t) (lower.decayed_kept y)
  object-told i t y h e =
      let w = both (has_objects t) (not (is_code t)) e in
      subst (λ z. ToldIf locals (plain.decayed t) (lower.decayed_kept z)) (sym h.is)
      (object-type (lower.is_argument locals i) i t t w.0 (no-not (is_code t) w.1))

  pub decayed-told : (o : Option plain.Kept) (y : Kept) → ToldIf locals o y → decays_well o ≡ true
      → ToldIf locals (plain.decayed_kept o) (lower.decayed_kept y)
  decayed-told (Some (plain.a_place t)) y h e = subst (λ z. ToldIf locals (plain.decayed t) (lower.decayed_kept z)) (sym h) (decayed-type t e)
  decayed-told (Some (plain.an_object i t)) y h e = object-told i t y h e
  decayed-told o y h e = tt

  -- a pointer that is moved stays one to its type
  moved-pointer : (t : SourceType) (z : Kept) → is_object t ≡ true → lower.pointer_of (holds (sort_to (without_const t))) z ≡ holds (sort_to (without_const t))
  moved-pointer t z e =
      let a = address-sort t (no-not (is_code t) (both (not (is_code t)) (not (is_void t)) e).0) in
      ap (λ s. lower.pointer_of (holds s) z) a ∙ ap (λ (s : Sort). holds s) (sym a)

  forth-told : (o p : Option plain.Kept) (y z : Kept) → ToldIf locals o y → of_place is_object o ≡ true → ToldIf locals (plain.forth o p) (lower.pointer_of y z)
  forth-told (Some (plain.a_place t)) (Some (plain.an_integer f)) y z h e =
      ap (λ x. lower.pointer_of x z) h ∙ moved-pointer t z e
  forth-told o p y z h e = tt

  pub moved-told : (o p : Option plain.Kept) (y z : Kept) → ToldIf locals o y → ToldIf locals p z → of_place is_object o && of_place is_object p ≡ true
      → ToldIf locals (plain.moved_kept o p) (lower.pointer_of y z)
  moved-told (Some (plain.an_integer f)) (Some (plain.a_place t)) y z h k e = ap (λ x. lower.pointer_of x z) h.is ∙ k
  moved-told o p y z h k e = forth-told o p y z h (both (of_place is_object o) (of_place is_object p) e).0

  pub back-told : (o p : Option plain.Kept) (y : Kept) → ToldIf locals o y → ToldIf locals (plain.forth o p) y
  back-told (Some (plain.a_place t)) (Some (plain.an_integer f)) y h = h
  back-told o p y h = tt

  compared-told : (o p : Option plain.Kept) (y : Kept) → Told locals (plain.of_kind Int) y → ToldIf locals (plain.compared o p) y
  compared-told (Some (plain.a_place t)) (Some (plain.a_place u)) y h = given-told (same_but_const t u) (plain.of_kind Int) y h
  compared-told (Some (plain.a_member t)) (Some (plain.a_member u)) y h = given-told (same_but_const t u) (plain.of_kind Int) y h
  compared-told (Some (plain.an_integer f)) (Some (plain.an_integer g)) y h = h
  compared-told o p y h = tt

  pub pointers-told : (o : PointerOperator) (p q : Option plain.Kept) (y z : Kept) → ToldIf locals p y → ToldIf locals q z
      → operands_ready o p q ≡ true → ToldIf locals (plain.pointer_operated o p q) (lower.operated_kept o y z)
  pointers-told pointer_op.Add p q y z h k e = moved-told p q y z h k e
  pointers-told pointer_op.Subtract p q y z h k e = back-told p q y h
  pointers-told pointer_op.Difference p q y z h k e = compared-told p q (lower.of_kind Int) (of-kind Int)
  pointers-told o p q y z h k e = compared-told p q lower.a_truth int-truth

  -- ---- conversions

  to-place-told : (t : SourceType) (o : Option plain.Kept) → ToldIf locals (plain.to_place t o) (lower.of_type (pointer t))
  to-place-told t (Some (plain.an_integer f)) = pointer-told t
  to-place-told t (Some (plain.a_place u)) = by_test (is_void t)
    where
      by_same : (b : Bool) → ToldIf locals (if b then Some (plain.a_place t) else None) (lower.of_type (pointer t))
      by_same true = pointer-told t
      by_same false = tt

      by_test : (b : Bool) → ToldIf locals (if b || same_but_const u t then Some (plain.a_place t) else None) (lower.of_type (pointer t))
      by_test true = pointer-told t
      by_test false = by_same (same_but_const u t)
  to-place-told t o = tt

  to-member-told : (t : SourceType) (o : Option plain.Kept) (y : Kept) → ToldIf locals (plain.to_member t o) y
  to-member-told t (Some (plain.an_integer f)) y = tt
  to-member-told t (Some (plain.a_member u)) y = by_test (same_but_const u t)
    where
      by_test : (b : Bool) → ToldIf locals (if b then Some (plain.a_member t) else None) y
      by_test true = tt
      by_test false = tt
  to-member-told t o y = tt

  pub converted-told : (t : SourceType) (o : Option plain.Kept) → ToldIf locals (plain.converted t o) (lower.of_type t)
  converted-told void None = tt
  converted-told void (Some x) = tt
  converted-told (integer k) o = given-told (plain.integer_in o) (plain.of_kind k) (lower.of_kind k) (of-kind k)
  converted-told (enumeration e) o = given-told (plain.integer_in o) (plain.of_kind Int) (lower.of_kind Int) (of-kind Int)
  converted-told (pointer t) o = to-place-told t o
  converted-told (data_member c t) o = to-member-told (data_member c t) o (lower.of_type (data_member c t))
  converted-told (function_member c t) o = to-member-told (function_member c t) o (lower.of_type (function_member c t))
  converted-told (const t) o = converted-told t o
  converted-told t o = tt

  pub from_void-told : (t : SourceType) (o : Option plain.Kept) → not (is_code t) ≡ true
      → ToldIf locals (plain.from_void_kept t o) (holds (address (without_const t)))
  from_void-told t (Some (plain.a_place u)) e =
      given-told (is_void u) (plain.a_place t) (holds (address (without_const t))) (ap (λ (s : Sort). holds s) (sym (address-sort t (no-not (is_code t) e))))
  from_void-told t o e = tt

  -- ---- integers and truth

  pub tested-told : (o : Option plain.Kept) → ToldIf locals (plain.tested o) lower.a_truth
  tested-told (Some (plain.an_integer f)) = a-truth
  tested-told (Some (plain.a_place t)) = a-truth
  tested-told (Some (plain.a_member t)) = a-truth
  tested-told o = tt

  result-told : (o : Arith) (k : Kind) → Told locals (if is_comparison o then plain.a_truth else plain.of_kind k) (lower.result_kept o k)
  result-told op.Less k = a-truth
  result-told op.Greater k = a-truth
  result-told op.LessEqual k = a-truth
  result-told op.GreaterEqual k = a-truth
  result-told op.Equal k = a-truth
  result-told op.NotEqual k = a-truth
  result-told o k = of-kind k

  pub operated-told : (o : Arith) (k : Kind) (p q : Option plain.Kept) → ToldIf locals (plain.operated o k p q) (lower.result_kept o k)
  operated-told o k p q =
      given-told (plain.has_kind k p && plain.right_has o k q) (if is_comparison o then plain.a_truth else plain.of_kind k) (lower.result_kept o k) (result-told o k)

  pub kind-told : (b : Bool) (k : Kind) → ToldIf locals (plain.given b (plain.of_kind k)) (lower.of_kind k)
  kind-told b k = given-told b (plain.of_kind k) (lower.of_kind k) (of-kind k)

  -- ---- stores

  pub stored-told : (o p : Option plain.Kept) (y : Kept) → ToldIf locals (plain.stored o p) y
  stored-told (Some (plain.a_place t)) (Some x) y = given-told (plain.suits t x) plain.no_value y tt
  stored-told o p y = tt

  pub begun-told : (o p : Option plain.Kept) (y : Kept) → ToldIf locals (plain.begun o p) y
  begun-told (Some (plain.an_object i t)) (Some x) y = given-told (plain.suits t x) plain.no_value y tt
  begun-told (Some (plain.a_place t)) (Some x) y = given-told (plain.suits t x) plain.no_value y tt
  begun-told o p y = tt

  pub filled-told : (o : Option plain.Kept) (y : Kept) → ToldIf locals (plain.filled o) y
  filled-told (Some (plain.an_object i t)) y = tt
  filled-told (Some (plain.a_place t)) y = tt
  filled-told o y = tt

  pub declared-told : (i : ℕ) (t : SourceType) → is_the_type (slice_get locals.types i) t ≡ true → Told locals (plain.an_object i t) (lower.declared_kept locals i t)
  declared-told i t e = record { there = the-type (slice_get locals.types i) t e; is = refl }
