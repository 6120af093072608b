-- What registers hold as values of types.
use Rattle.std.proofs.Common.{◌≡◌, ℕ, Bool, true, false, refl, sym, ap, ◌∙◌, arith}
use Rattle.std.specs.Prelude.{Some, ◌==◌, not}
use Rattle.std.proofs.lemmas.Bool.Decides.{nat_tests}
use Rattle.cf_base.specs.declared.kind.Kind.{Kind}
use Rattle.cf_base.specs.declared.kind.Kind.TheVariants.{Char, SChar, UChar, Short, UShort, Int, UInt, Long, ULong}
use Rattle.cf_base.proofs.Tests.{both, same_bytes}
use Rattle.std.specs.Str.{bytes_eq}
use Rattle.cf_core.specs.Types.{SourceType, void, integer, enumeration, class, pointer, reference, array, takes, gives, data_member, function_member, const, kind_number, bool_eq, type_eq, same_but_const, without_const, plain, is_void}
use Rattle.cf_core.specs.Places.{is_scalar, is_reference}
use Rattle.cf_core.specs.Typing.{is_function}
use Rattle.cf_plain_kept.specs.Kept.{Kept, no_value, an_integer, a_place, a_member, an_object, within, kept_of, value_of, suits, integer_in, tested, a_truth, decayed, named}
use Rattle.cf_sequence.proofs.Calling.{never}
use Rattle.cf_sequence.proofs.SameTypes.{type-same, same-itself}

kind-is : (k l : Kind) → (kind_number k == kind_number l) ≡ true → k ≡ l
kind-is Char Char e = refl
kind-is SChar SChar e = refl
kind-is UChar UChar e = refl
kind-is Short Short e = refl
kind-is UShort UShort e = refl
kind-is Int Int e = refl
kind-is UInt UInt e = refl
kind-is Long Long e = refl
kind-is ULong ULong e = refl
kind-is k l e = never e

flag-is : (b c : Bool) → bool_eq b c ≡ true → b ≡ c
flag-is true true e = refl
flag-is true false e = never e
flag-is false true e = never e
flag-is false false e = refl

nat-is : (n m : ℕ) → (n == m) ≡ true → n ≡ m
nat-is n m e = grind (arith, nat_tests)

type-is : (a b : SourceType) → type_eq a b ≡ true → a ≡ b
type-is void void e = refl
type-is (integer k) (integer l) e = ap integer (kind-is k l e)
type-is (enumeration x) (enumeration y) e = ap enumeration (same_bytes x y e)
type-is (class c) (class d) e = ap class (same_bytes c d e)
type-is (pointer t) (pointer u) e = ap pointer (type-is t u e)
type-is (reference t) (reference u) e = ap reference (type-is t u e)
type-is (array t n) (array u m) e =
    let p = both (type_eq t u) (n == m) e in ap (λ z. array z n) (type-is t u p.0) ∙ ap (λ k. array u k) (nat-is n m p.1)
type-is (takes p t) (takes q u) e =
    let r = both (type_eq p q) (type_eq t u) e in ap (λ z. takes z t) (type-is p q r.0) ∙ ap (λ z. takes q z) (type-is t u r.1)
type-is (gives t c) (gives u d) e =
    let p = both (type_eq t u) (bool_eq c d) e in ap (λ z. gives z c) (type-is t u p.0) ∙ ap (λ b. gives u b) (flag-is c d p.1)
type-is (data_member c t) (data_member d u) e =
    let p = both (bytes_eq c d) (type_eq t u) e in ap (λ z. data_member z t) (same_bytes c d p.0) ∙ ap (λ z. data_member d z) (type-is t u p.1)
type-is (function_member c t) (function_member d u) e =
    let p = both (bytes_eq c d) (type_eq t u) e in ap (λ z. function_member z t) (same_bytes c d p.0) ∙ ap (λ z. function_member d z) (type-is t u p.1)
type-is (const t) (const u) e = ap const (type-is t u e)
type-is a b e = never e

bare-is : (t u : SourceType) → same_but_const t u ≡ true → without_const t ≡ without_const u
bare-is t u e = type-is (without_const t) (without_const u) e

same-bare : (t u : SourceType) → without_const t ≡ without_const u → same_but_const t u ≡ true
same-bare t u e = ap (λ z. type_eq (without_const t) z) (sym e) ∙ type-same (without_const t)

pub same-turned : (t u : SourceType) → same_but_const t u ≡ true → same_but_const u t ≡ true
same-turned t u e = same-bare u t (sym (bare-is t u e))

pub same-then : (t u v : SourceType) → same_but_const t u ≡ true → same_but_const u v ≡ true → same_but_const t v ≡ true
same-then t u v e f = same-bare t v (bare-is t u e ∙ bare-is u v f)

-- of a type without const
bare_suits : SourceType → Kept → Bool
bare_suits (integer k) (an_integer f) = f k
bare_suits (enumeration e) (an_integer f) = f Int
bare_suits (pointer t) (a_place u) = type_eq (without_const u) t
bare_suits (reference t) (a_place u) = type_eq (without_const u) t
bare_suits (data_member c t) (a_member u) = type_eq (without_const u) (data_member c t)
bare_suits (function_member c t) (a_member u) = type_eq (without_const u) (function_member c t)
bare_suits void no_value = true
bare_suits (class c) no_value = true
bare_suits (array t n) no_value = true
bare_suits (takes p t) no_value = true
bare_suits (gives t c) no_value = true
bare_suits t x = false

suits-bare : (t : SourceType) (h : Kept) → suits t h ≡ bare_suits (without_const t) h
unfolding bare_suits
suits-bare (const t) h = suits-bare t h
suits-bare (integer k) no_value = refl
suits-bare (integer k) (an_integer f) = refl
suits-bare (integer k) h = refl
suits-bare t no_value = refl
suits-bare t (an_integer f) = refl
suits-bare t (a_place u) = refl
suits-bare t (a_member u) = refl
suits-bare t (an_object i u) = refl

pub suits-same : (t u : SourceType) (h : Kept) → same_but_const t u ≡ true → suits t h ≡ true → suits u h ≡ true
suits-same t u h e is = suits-bare u h ∙ ap (λ z. bare_suits z h) (sym (bare-is t u e)) ∙ sym (suits-bare t h) ∙ is

within-itself : (k : Kind) → within k k ≡ true
within-itself Char = refl
within-itself SChar = refl
within-itself UChar = refl
within-itself Short = refl
within-itself UShort = refl
within-itself Int = refl
within-itself UInt = refl
within-itself Long = refl
within-itself ULong = refl

pub own-suits : (t : SourceType) → suits t (value_of t) ≡ true
own-suits (const t) = own-suits t
own-suits (integer k) = within-itself k
own-suits (pointer t) = same-itself t
own-suits (reference t) = same-itself t
own-suits (data_member c t) = same-itself (data_member c t)
own-suits (function_member c t) = same-itself (function_member c t)
own-suits t = refl

pub values-suit : (t u : SourceType) → same_but_const t u ≡ true → suits u (value_of t) ≡ true
values-suit t u e = suits-same t u (value_of t) e (own-suits t)

-- a scalar's value is kept as it is
pub scalar-kept : (t : SourceType) → is_scalar t ≡ true → kept_of t ≡ Some (value_of t)
scalar-kept (const t) ok = scalar-kept t ok
scalar-kept (integer k) ok = refl
scalar-kept (enumeration e) ok = refl
scalar-kept (pointer t) ok = refl
scalar-kept (reference t) ok = refl
scalar-kept (data_member c t) ok = refl
scalar-kept (function_member c t) ok = refl
scalar-kept t ok = never ok

-- a pointer to a type
pub record Pointed (t : SourceType) (h : Kept) : Type 0 where
  pub to : SourceType
  pub is : h ≡ a_place to
  pub same : same_but_const to t ≡ true

pub pointed-to : (t : SourceType) (h : Kept) → suits (pointer t) h ≡ true → Pointed t h
pointed-to t (a_place u) ok = record { to = u; is = refl; same = ok }
pointed-to t h ok = never ok

pub refers-too : (t : SourceType) (h : Kept) → suits (pointer t) h ≡ true → suits (reference t) h ≡ true
refers-too t (a_place u) ok = ok
refers-too t h ok = never ok

-- a scalar can be tested
pub scalar-tested : (t : SourceType) (h : Kept) → is_scalar t ≡ true → suits t h ≡ true → tested (Some h) ≡ Some a_truth
scalar-tested (const t) h ok is = scalar-tested t h ok is
scalar-tested (integer k) (an_integer f) ok is = refl
scalar-tested (integer k) h ok is = never is
scalar-tested (enumeration e) (an_integer f) ok is = refl
scalar-tested (enumeration e) h ok is = never is
scalar-tested (pointer t) (a_place u) ok is = refl
scalar-tested (pointer t) h ok is = never is
scalar-tested (reference t) (a_place u) ok is = refl
scalar-tested (reference t) h ok is = never is
scalar-tested (data_member c t) (a_member u) ok is = refl
scalar-tested (data_member c t) h ok is = never is
scalar-tested (function_member c t) (a_member u) ok is = refl
scalar-tested (function_member c t) h ok is = never is
scalar-tested t h ok is = never ok

-- an integer of any kind
pub integer-kept : (k : Kind) (h : Kept) → suits (integer k) h ≡ true → integer_in (Some h) ≡ true
integer-kept k (an_integer f) ok = refl
integer-kept k h ok = never ok

pub enumerator-kept : (e : _) (h : Kept) → suits (enumeration e) h ≡ true → integer_in (Some h) ≡ true
enumerator-kept e (an_integer f) ok = refl
enumerator-kept e h ok = never ok

pub integer-tested : (h : Kept) → integer_in (Some h) ≡ true → tested (Some h) ≡ Some a_truth
integer-tested (an_integer f) ok = refl
integer-tested h ok = never ok

-- Const does not matter.

scalar-bare : (t : SourceType) → is_scalar t ≡ is_scalar (without_const t)
scalar-bare (const t) = scalar-bare t
scalar-bare t = refl

pub scalar-same : (t u : SourceType) → same_but_const t u ≡ true → is_scalar t ≡ true → is_scalar u ≡ true
scalar-same t u e ok = scalar-bare u ∙ ap is_scalar (sym (bare-is t u e)) ∙ sym (scalar-bare t) ∙ ok

void-bare : (t : SourceType) → is_void t ≡ is_void (without_const t)
void-bare (const t) = void-bare t
void-bare t = refl

pub void-same : (t u : SourceType) → same_but_const t u ≡ true → is_void t ≡ true → is_void u ≡ true
void-same t u e ok = void-bare u ∙ ap is_void (sym (bare-is t u e)) ∙ sym (void-bare t) ∙ ok

pub plain-suits : (t : SourceType) (h : Kept) → suits t h ≡ true → suits (plain t) h ≡ true
plain-suits (const t) h ok = ok
plain-suits t h ok = ok

pub plain-void : (t : SourceType) → is_void (plain t) ≡ true → is_void t ≡ true
plain-void (const t) ok = ok
plain-void t ok = ok

-- what an array or a function decays to
pub record Decays (u t : SourceType) : Type 0 where
  pub to : SourceType
  pub is : decayed u ≡ Some (a_place to)
  pub same : same_but_const to t ≡ true

pub array-decays : (u t : SourceType) (n : ℕ) → same_but_const u (array t n) ≡ true → Decays u t
array-decays (const u) t n e = let d = array-decays u t n e in record { to = d.to; is = d.is; same = d.same }
array-decays (array s m) t n e = record { to = s; is = refl; same = (both (same_but_const s t) (m == n) e).0 }
array-decays u t n e = never e

pub function-decays : (u t : SourceType) → is_function t ≡ true → same_but_const u t ≡ true → Decays u t
function-decays (const u) t ok e = let d = function-decays u t ok e in record { to = d.to; is = d.is; same = d.same }
function-decays (takes p s) t ok e = record { to = takes p s; is = refl; same = e }
function-decays (gives s c) t ok e = record { to = gives s c; is = refl; same = e }
function-decays u (takes p t) ok e = never e
function-decays u (gives t c) ok e = never e
function-decays u t ok e = never ok

-- References.

reference-bare : (t : SourceType) → is_reference (without_const t) ≡ is_reference t
reference-bare (const t) = reference-bare t
reference-bare t = refl

pub reference-same : (t u : SourceType) → same_but_const t u ≡ true → is_reference t ≡ is_reference u
reference-same t u e = sym (reference-bare t) ∙ ap is_reference (bare-is t u e) ∙ reference-bare u

-- a name of another type stands for a place of that type
pub names-place : (t : SourceType) → not (is_reference t) ≡ true → named (Some t) ≡ Some (a_place t)
names-place (reference t) ok = never ok
names-place t ok = refl
