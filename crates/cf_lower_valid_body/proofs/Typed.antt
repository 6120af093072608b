-- Expressions of the small C that have a type.
use Rattle.std.proofs.Common.{◌≡◌, ℕ, ◌≤◌, ◌<◌, ◌^◌, Bool, true, false, not, ◌&&◌, ◌||◌, if◌then◌else◌, nat_lt, List, refl, sym, ◌∙◌, ap, subst, arith}
use Rattle.std.specs.Prelude.{pos, Option, Some, None, Ok}
use Rattle.std.proofs.lemmas.Bool.Decides.{nat_tests}
use Rattle.cf_base.specs.declared.kind.Kind.{Kind}
use Rattle.cf_base.specs.declared.kind.Kind.TheVariants.{Char, SChar, UChar, Short, UShort, Int, UInt, Long, ULong}
use Rattle.cf_base.specs.declared.arith.Arith.{Arith}
use Rattle.cf_base.specs.declared.arith.Arith.TheVariants as op
use Rattle.cf_base.proofs.Tests.{all_of}
use Rattle.cf_base.specs.Integers.{fits}
use Rattle.cf_types.specs.Operators as source
use Rattle.cf_core.specs.Types.{Name}
use Rattle.cf_core.specs.declared.operators.UnaryOperator.{UnaryOperator}
use Rattle.cf_core.specs.declared.operators.UnaryOperator.TheVariants as sign
use Rattle.cc_whole.specs.declared.types.CType.{CType}
use Rattle.cc_whole.specs.declared.types.CType.TheVariants as ty
use Rattle.cc_whole.specs.declared.types.CConstant.{CConstant}
use Rattle.cc_whole.specs.declared.types.CVariableType.{CVariableType}
use Rattle.cc_whole.specs.declared.types.CVariableType.TheVariants as variable
use Rattle.cc_whole.specs.declared.expression.Prefix.{Prefix}
use Rattle.cc_whole.specs.declared.expression.Prefix.TheVariants as prefix
use Rattle.cc_whole.specs.Numbers.{constant_type, fits_constant}
use Rattle.cc_whole.specs.Types.{same_type, is_integer, is_pointer, is_comparison, is_equality, is_add, is_subtract, is_shift, moves_pointer, compares, is_unsigned, promoted, usual_type, arithmetic_type, binary_type, may_stand_left, prefix_type, value_type}
use Rattle.cc_whole.specs.Landmarks.{type_marks, marks}
use Rattle.cc_whole.specs.Fault.{Checks, fine, broken, holds, moved, checked_then, ◌before◌}
use Rattle.cc_whole.specs.Known.{Named, lookup, function, object, is_main}
use Rattle.cc_whole.specs.Plain.{Expression, named, pointed, constant, load, unary, cast, address, binary}
use Rattle.cc_whole.specs.Typed.{typed, typed_name, typed_address, typed_cast, typed_pointed, typed_prefix, may_cast, is_zero, fitted}
use Rattle.cf_lower_layout.specs.Sorts as sorts
use Rattle.cf_lower_layout.specs.Sorts.{Sort}
use Rattle.cf_lower.specs.Written.{c_integer, c_type, register_type, int_constant}
use Rattle.cf_lower.specs.Expressions.{zero, as_value, as_stored, at_kind, as_bits, operated, prefix_of}

-- ---- types

pub type-same : (t : CType) → same_type t t ≡ true
unfolding same_type
type-same ty.Char = refl
type-same ty.UChar = refl
type-same ty.Short = refl
type-same ty.UShort = refl
type-same ty.Int = refl
type-same ty.UInt = refl
type-same ty.Pointer = refl
type-same ty.FunctionPointer = refl

pub kind-integer : (k : Kind) → is_integer (c_integer k) ≡ true
kind-integer Char = refl
kind-integer SChar = refl
kind-integer UChar = refl
kind-integer Short = refl
kind-integer UShort = refl
kind-integer Int = refl
kind-integer UInt = refl
kind-integer Long = refl
kind-integer ULong = refl

promoted-integer : (t : CType) → is_integer (promoted t) ≡ true
promoted-integer ty.UInt = refl
promoted-integer t = refl

usual-integer : (s t : CType) → is_integer (usual_type s t) ≡ true
usual-integer s t = go (is_unsigned s || is_unsigned t)
  where
    go : (b : Bool) → is_integer (if b then ty.UInt else ty.Int) ≡ true
    go true = refl
    go false = refl

pub arithmetic-integer : (o : Arith) (s t : CType) → is_integer (arithmetic_type o s t) ≡ true
arithmetic-integer o s t = first (is_comparison o)
  where
    second : (b : Bool) → is_integer (if b then promoted s else usual_type s t) ≡ true
    second true = promoted-integer s
    second false = usual-integer s t

    first : (b : Bool) → is_integer (if b then ty.Int else (if is_shift o then promoted s else usual_type s t)) ≡ true
    first true = refl
    first false = second (is_shift o)

-- ---- constants

pub small-fits : (n : ℕ) → n ≤ 2 ^ 22 → fits Int (pos n) ≡ true
small-fits n le = grind (arith, nat_tests)

module _ (names : List Named) where
  abbrev pub Has : Expression → CType → Type 0
  Has e t = typed e names ≡ Ok t

  pub constant-has : (c : CConstant) → fits_constant c ≡ true → Has (constant c) (constant_type c)
  constant-has c e = ap (λ b. holds b 11 0 before Ok (constant_type c)) e

  pub count-has : (n : ℕ) → n ≤ 2 ^ 22 → Has (constant (int_constant n)) ty.Int
  count-has n le = constant-has (int_constant n) (small-fits n le)

  pub zero-has : Has zero ty.Int
  zero-has = refl

  -- ---- names

  pub value-has : (name : Name) (t : CVariableType) → lookup names name ≡ Some (object t) → Has (load (named name)) (value_type t)
  value-has name t e = ap (typed_name name) e

  pub function-has : (name : Name) (p : _) → lookup names name ≡ Some (function p) → is_main name ≡ false → Has (load (named name)) ty.FunctionPointer
  function-has name p e m = ap (typed_name name) e ∙ ap (λ b. holds (not b) 10 0 before Ok ty.FunctionPointer) m

  pub address-has : (name : Name) (t : CVariableType) → lookup names name ≡ Some (object t) → Has (address name) ty.Pointer
  address-has name t e = ap typed_address e

  -- ---- operators

  pub cast-has : (t s : CType) (e : Expression) → Has e s → may_cast t s (is_zero e) ≡ true → Has (cast t e) t
  cast-has t s e h m = ap (λ c. checked_then (moved (type_marks t) c) (typed_cast t (is_zero e))) h ∙ ap (λ b. holds b 3 (type_marks t) before Ok t) m

  pub pointed-has : (t : CType) (e : Expression) → Has e ty.Pointer → Has (load (pointed t e)) t
  pointed-has t e h = ap (λ c. checked_then (moved (type_marks t) c) (typed_pointed t)) h

  pub binary-has : (o : Arith) (a b : Expression) (s t u : CType) → Has a s → Has b t → may_stand_left o s ≡ true
      → binary_type o s (is_zero a) t (is_zero b) ≡ Some u → Has (binary o a b) u
  binary-has o a b s t u h k left both =
      ap (λ c. checked_then c (λ x. holds (may_stand_left o x) 3 0 before
      checked_then (moved (marks a) (typed b names)) (λ y. fitted (marks a) (binary_type o x (is_zero a) y (is_zero b))))) h
      ∙ ap (λ c. holds c 3 0 before checked_then (moved (marks a) (typed b names)) (λ y. fitted (marks a) (binary_type o s (is_zero a) y (is_zero b)))) left
      ∙ ap (λ c. checked_then (moved (marks a) c) (λ y. fitted (marks a) (binary_type o s (is_zero a) y (is_zero b)))) k
      ∙ ap (fitted (marks a)) both

  -- two integers go with every operator
  pub integers-have : (o : Arith) (a b : Expression) (s t : CType) → Has a s → Has b t → is_integer s ≡ true → is_integer t ≡ true
      → Has (binary o a b) (arithmetic_type o s t)
  integers-have o a b s t h k first second =
      binary-has o a b s t (arithmetic_type o s t) h k
      (ap (λ x. x || (is_equality o || (is_pointer s && (is_add o || (is_subtract o || is_comparison o))))) first)
      (ap (λ x. if x then Some (arithmetic_type o s t)
      else (if moves_pointer o s t then Some ty.Pointer else (if compares o s (is_zero a) t (is_zero b) then Some ty.Int else None)))
      (all_of (is_integer s) (is_integer t) first second))

  pub ints-have : (o : Arith) (a b : Expression) → Has a ty.Int → Has b ty.Int → Has (binary o a b) (arithmetic_type o ty.Int ty.Int)
  ints-have o a b h k = integers-have o a b ty.Int ty.Int h k refl refl

  -- an integer, as one of another type
  pub integer-cast : (t s : CType) (e : Expression) → Has e s → is_integer t ≡ true → is_integer s ≡ true → Has (cast t e) t
  integer-cast t s e h k m = cast-has t s e h (may (all_of (is_integer t) (is_integer s) k m))
    where
      may : is_integer t && is_integer s ≡ true → may_cast t s (is_zero e) ≡ true
      may x = ap (λ b. b || (not (is_integer t) && (same_type s t || is_zero e))) x

  -- what has the type already
  pub same-cast : (t : CType) (e : Expression) → Has e t → Has (cast t e) t
  same-cast t e h = cast-has t t e h (by (is_integer t) (is_zero e))
    where
      by : (b z : Bool) → (b && b) || (not b && (same_type t t || z)) ≡ true
      by true z = refl
      by false z = ap (λ x. x || z) (type-same t)

  pub bits-have : (s : CType) (e : Expression) → Has e s → is_integer s ≡ true → Has (as_bits e) ty.Int
  bits-have s e h i = integer-cast ty.Int s e h refl i

  pub kind-has : (k : Kind) (e : Expression) → Has e ty.Int → Has (at_kind k e) (c_integer k)
  kind-has k e h = integer-cast (c_integer k) ty.Int e h (kind-integer k) refl

  pub operated-has : (o : Arith) (k to : Kind) (a b : Expression) → Has a ty.Int → Has b ty.Int → Has (as_bits (at_kind to (operated o k a b))) ty.Int
  operated-has o k to a b h m = go (source.is_shift o)
    where
      go : (x : Bool) → Has (as_bits (at_kind to (elim x [ true ↦ binary o (at_kind k a) b | false ↦ binary o (at_kind k a) (at_kind k b) ]))) ty.Int
      go true = bits-have (c_integer to) (at_kind to (binary o (at_kind k a) b))
          (integer-cast (c_integer to) (arithmetic_type o (c_integer k) ty.Int) (binary o (at_kind k a) b)
          (integers-have o (at_kind k a) b (c_integer k) ty.Int (kind-has k a h) m (kind-integer k) refl) (kind-integer to) (arithmetic-integer o (c_integer k) ty.Int))
          (kind-integer to)
      go false = bits-have (c_integer to) (at_kind to (binary o (at_kind k a) (at_kind k b)))
          (integer-cast (c_integer to) (arithmetic_type o (c_integer k) (c_integer k)) (binary o (at_kind k a) (at_kind k b))
          (integers-have o (at_kind k a) (at_kind k b) (c_integer k) (c_integer k) (kind-has k a h) (kind-has k b m) (kind-integer k) (kind-integer k))
          (kind-integer to) (arithmetic-integer o (c_integer k) (c_integer k)))
          (kind-integer to)

  pub computed-has : (o : Arith) (k : Kind) (a b : Expression) → Has a ty.Int → Has b ty.Int → Has (as_bits (operated o k a b)) ty.Int
  computed-has o k a b h m = go (source.is_shift o)
    where
      go : (x : Bool) → Has (as_bits (elim x [ true ↦ binary o (at_kind k a) b | false ↦ binary o (at_kind k a) (at_kind k b) ])) ty.Int
      go true = bits-have (arithmetic_type o (c_integer k) ty.Int) (binary o (at_kind k a) b)
          (integers-have o (at_kind k a) b (c_integer k) ty.Int (kind-has k a h) m (kind-integer k) refl) (arithmetic-integer o (c_integer k) ty.Int)
      go false = bits-have (arithmetic_type o (c_integer k) (c_integer k)) (binary o (at_kind k a) (at_kind k b))
          (integers-have o (at_kind k a) (at_kind k b) (c_integer k) (c_integer k) (kind-has k a h) (kind-has k b m) (kind-integer k) (kind-integer k))
          (arithmetic-integer o (c_integer k) (c_integer k))

  prefix-integer : (o : Prefix) (t : CType) → is_integer (prefix_type o t) ≡ true
  prefix-integer prefix.Not t = refl
  prefix-integer o t = promoted-integer t

  pub prefixed-has : (o : UnaryOperator) (k : Kind) (a : Expression) → Has a ty.Int → Has (as_bits (unary (prefix_of o) (at_kind k a))) ty.Int
  prefixed-has o k a h =
      bits-have (prefix_type (prefix_of o) (c_integer k)) (unary (prefix_of o) (at_kind k a))
      (ap (λ c. checked_then c (typed_prefix (prefix_of o))) (kind-has k a h)
      ∙ ap (λ b. holds b 3 0 before Ok (prefix_type (prefix_of o) (c_integer k))) (kind-integer k))
      (prefix-integer (prefix_of o) (c_integer k))

  -- ---- scalars

  -- a value of a sort, from the register that holds it and from memory
  pub value-cast : (s : Sort) (e : Expression) → Has e (c_type s) → Has (as_value s e) (register_type s)
  value-cast (sorts.number k) e h = integer-cast ty.Int (c_integer k) e h refl (kind-integer k)
  value-cast (sorts.address t) e h = same-cast ty.Pointer e h
  value-cast (sorts.code t) e h = same-cast ty.FunctionPointer e h

  pub register-cast : (s : Sort) (e : Expression) → Has e (register_type s) → Has (as_value s e) (register_type s)
  register-cast (sorts.number k) e h = same-cast ty.Int e h
  register-cast (sorts.address t) e h = same-cast ty.Pointer e h
  register-cast (sorts.code t) e h = same-cast ty.FunctionPointer e h

  pub stored-cast : (s : Sort) (e : Expression) → Has e (register_type s) → Has (as_stored s e) (c_type s)
  stored-cast (sorts.number k) e h = integer-cast (c_integer k) ty.Int e h (kind-integer k) refl
  stored-cast (sorts.address t) e h = same-cast ty.Pointer e h
  stored-cast (sorts.code t) e h = same-cast ty.FunctionPointer e h

  -- the constant 0 goes to every scalar
  pub zero-stored : (s : Sort) → Has (as_stored s zero) (c_type s)
  unfolding same_type
  zero-stored (sorts.number k) = integer-cast (c_integer k) ty.Int zero refl (kind-integer k) refl
  zero-stored (sorts.address t) = cast-has ty.Pointer ty.Int zero refl refl
  zero-stored (sorts.code t) = cast-has ty.FunctionPointer ty.Int zero refl refl

  pub zero-value : (s : Sort) → Has (as_value s zero) (register_type s)
  unfolding same_type
  zero-value (sorts.number k) = integer-cast ty.Int ty.Int zero refl refl refl
  zero-value (sorts.address t) = cast-has ty.Pointer ty.Int zero refl refl
  zero-value (sorts.code t) = cast-has ty.FunctionPointer ty.Int zero refl refl
