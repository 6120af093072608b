-- Types that are the same but for const answer alike.
use Rattle.std.proofs.Common.{◌≡◌, ℕ, Bool, true, false, ◌&&◌, List, [], ◌∷◌, ◌==◌, bytes_eq, nat_eq, if◌then◌else◌, refl, sym, ap, ◌∙◌, true≢false, arith}
use Rattle.std.specs.Cmp.Lexicographic.{same_text}
use Rattle.std.proofs.lemmas.Bool.{eqb-true}
use Rattle.std.proofs.lemmas.Bool.Decides.{nat_tests}
use Rattle.cf_base.specs.declared.kind.Kind.{Kind}
use Rattle.cf_base.specs.declared.kind.Kind.TheVariants.{Char, SChar, UChar, Short, UShort, Int, UInt, Long, ULong}
use Rattle.cf_core.specs.Types.{SourceType, void, integer, enumeration, class, pointer, reference, array, takes, gives, data_member, function_member, const, plain, without_const, kind_number, bool_eq, type_eq, same_but_const, is_void}
use Rattle.cf_core.specs.Places.{is_scalar, is_reference}
use Rattle.cf_core.specs.Typing.{is_integral, is_function}
use Rattle.cf_core_typed.specs.Same.{Same, is_bare, takes_const, is_normal, is_operand}

-- ---- a type is the same as itself

nat-same : (n : ℕ) → (n == n) ≡ true
nat-same n = grind (arith, nat_tests)

pub and-both : (a b : Bool) → a ≡ true → b ≡ true → (a && b) ≡ true
and-both true b h k = k
and-both false b h k = h

pub and-left : (a b : Bool) → (a && b) ≡ true → a ≡ true
and-left true b h = refl
and-left false b h = h

pub and-right : (a b : Bool) → (a && b) ≡ true → b ≡ true
and-right true b h = h
and-right false b h = absurd (true≢false (sym h))

pub bytes-same : (xs : List ℕ) → bytes_eq xs xs ≡ true
bytes-same [] = refl
bytes-same (x ∷ xs) = and-both (nat_eq x x) (bytes_eq xs xs) (let h : nat_eq x x ≡ true = grind (arith, nat_tests) in h) (bytes-same xs)

bool-same : (b : Bool) → bool_eq b b ≡ true
bool-same true = refl
bool-same false = refl

type-same : (t : SourceType) → type_eq t t ≡ true
type-same void = refl
type-same (integer k) = nat-same (kind_number k)
type-same (enumeration e) = bytes-same e
type-same (class c) = bytes-same c
type-same (pointer t) = type-same t
type-same (reference t) = type-same t
type-same (array t n) = and-both (type_eq t t) (n == n) (type-same t) (nat-same n)
type-same (takes p t) = and-both (type_eq p p) (type_eq t t) (type-same p) (type-same t)
type-same (gives t c) = and-both (type_eq t t) (bool_eq c c) (type-same t) (bool-same c)
type-same (data_member c t) = and-both (bytes_eq c c) (type_eq t t) (bytes-same c) (type-same t)
type-same (function_member c t) = and-both (bytes_eq c c) (type_eq t t) (bytes-same c) (type-same t)
type-same (const t) = type-same t

pub same-told : (t u : SourceType) → Same t u → same_but_const t u ≡ true
same-told t u h = ap (λ w. type_eq w (without_const u)) h ∙ type-same (without_const u)

-- ---- what does not look at const

pub scalar-plain : (t : SourceType) → is_scalar (without_const t) ≡ is_scalar t
scalar-plain void = refl
scalar-plain (integer k) = refl
scalar-plain (enumeration e) = refl
scalar-plain (class c) = refl
scalar-plain (pointer t) = refl
scalar-plain (reference t) = refl
scalar-plain (array t n) = refl
scalar-plain (takes p t) = refl
scalar-plain (gives t c) = refl
scalar-plain (data_member c t) = refl
scalar-plain (function_member c t) = refl
scalar-plain (const t) = scalar-plain t

pub same-scalar : (t u : SourceType) → Same t u → is_scalar t ≡ is_scalar u
same-scalar t u h = sym (scalar-plain t) ∙ ap is_scalar h ∙ scalar-plain u

pub void-plain : (t : SourceType) → is_void (without_const t) ≡ is_void t
void-plain void = refl
void-plain (integer k) = refl
void-plain (enumeration e) = refl
void-plain (class c) = refl
void-plain (pointer t) = refl
void-plain (reference t) = refl
void-plain (array t n) = refl
void-plain (takes p t) = refl
void-plain (gives t c) = refl
void-plain (data_member c t) = refl
void-plain (function_member c t) = refl
void-plain (const t) = void-plain t

pub same-void : (t u : SourceType) → Same t u → is_void t ≡ is_void u
same-void t u h = sym (void-plain t) ∙ ap is_void h ∙ void-plain u

pub same-itself : (t : SourceType) → same_but_const t t ≡ true
same-itself t = same-told t t refl

pub integral-bare : (t : SourceType) → is_bare t ≡ true → is_integral (without_const t) ≡ is_integral t
integral-bare (const t) h = absurd (true≢false (sym h))
integral-bare void h = refl
integral-bare (integer k) h = refl
integral-bare (enumeration e) h = refl
integral-bare (class c) h = refl
integral-bare (pointer t) h = refl
integral-bare (reference t) h = refl
integral-bare (array t n) h = refl
integral-bare (takes p t) h = refl
integral-bare (gives t c) h = refl
integral-bare (data_member c t) h = refl
integral-bare (function_member c t) h = refl

-- under a const that stands where it may there is no function
not_const : (t : SourceType) → is_normal (const t) ≡ true → is_function (without_const t) ≡ false
not_const void h = refl
not_const (integer k) h = refl
not_const (enumeration e) h = refl
not_const (class c) h = refl
not_const (pointer t) h = refl
not_const (data_member c t) h = refl
not_const (function_member c t) h = refl
not_const (reference t) h = refl
not_const (array t n) h = refl
not_const (takes p t) h = absurd (true≢false (sym h))
not_const (gives t c) h = absurd (true≢false (sym h))
not_const (const t) h = absurd (true≢false (sym h))

pub function-normal : (t : SourceType) → is_normal t ≡ true → is_function (without_const t) ≡ is_function t
function-normal (const t) h = not_const t h
function-normal void h = refl
function-normal (integer k) h = refl
function-normal (enumeration e) h = refl
function-normal (class c) h = refl
function-normal (pointer t) h = refl
function-normal (reference t) h = refl
function-normal (array t n) h = refl
function-normal (takes p t) h = refl
function-normal (gives t c) h = refl
function-normal (data_member c t) h = refl
function-normal (function_member c t) h = refl

pub same-function : (t u : SourceType) → Same t u → is_normal t ≡ true → is_normal u ≡ true → is_function t ≡ is_function u
same-function t u h m n = sym (function-normal t m) ∙ ap is_function h ∙ function-normal u n

-- the type without the const on it
pub same-plain : (t : SourceType) → Same (plain t) t
same-plain (const t) = refl
same-plain void = refl
same-plain (integer k) = refl
same-plain (enumeration e) = refl
same-plain (class c) = refl
same-plain (pointer t) = refl
same-plain (reference t) = refl
same-plain (array t n) = refl
same-plain (takes p t) = refl
same-plain (gives t c) = refl
same-plain (data_member c t) = refl
same-plain (function_member c t) = refl

bare_under : (t : SourceType) → is_normal (const t) ≡ true → is_bare t ≡ true
bare_under (const t) h = absurd (true≢false (sym h))
bare_under void h = refl
bare_under (integer k) h = refl
bare_under (enumeration e) h = refl
bare_under (class c) h = refl
bare_under (pointer t) h = refl
bare_under (reference t) h = refl
bare_under (array t n) h = refl
bare_under (takes p t) h = refl
bare_under (gives t c) h = refl
bare_under (data_member c t) h = refl
bare_under (function_member c t) h = refl

pub plain-bare : (t : SourceType) → is_normal t ≡ true → is_bare (plain t) ≡ true
plain-bare (const t) h = bare_under t h
plain-bare void h = refl
plain-bare (integer k) h = refl
plain-bare (enumeration e) h = refl
plain-bare (class c) h = refl
plain-bare (pointer t) h = refl
plain-bare (reference t) h = refl
plain-bare (array t n) h = refl
plain-bare (takes p t) h = refl
plain-bare (gives t c) h = refl
plain-bare (data_member c t) h = refl
plain-bare (function_member c t) h = refl

pub plain-normal : (t : SourceType) → is_normal t ≡ true → is_normal (plain t) ≡ true
plain-normal (const t) h = and-right (takes_const t) (is_normal t) h
plain-normal void h = h
plain-normal (integer k) h = h
plain-normal (enumeration e) h = h
plain-normal (class c) h = h
plain-normal (pointer t) h = h
plain-normal (reference t) h = h
plain-normal (array t n) h = h
plain-normal (takes p t) h = h
plain-normal (gives t c) h = h
plain-normal (data_member c t) h = h
plain-normal (function_member c t) h = h

-- ---- types of one form

abbrev pointed_by : SourceType → SourceType
pointed_by (pointer t) = t
pointed_by t = t

pub pointer-form : (t u : SourceType) → is_bare t ≡ true → Same t (pointer u) → (v : SourceType) × (t ≡ pointer v) × Same v u
pointer-form (pointer t) u h e = (t, refl, ap pointed_by e)
pointer-form (const t) u h e = absurd (true≢false (sym h))
pointer-form void u h e = absurd cc
pointer-form (integer k) u h e = absurd cc
pointer-form (enumeration n) u h e = absurd cc
pointer-form (class c) u h e = absurd cc
pointer-form (reference t) u h e = absurd cc
pointer-form (array t n) u h e = absurd cc
pointer-form (takes p t) u h e = absurd cc
pointer-form (gives t c) u h e = absurd cc
pointer-form (data_member c t) u h e = absurd cc
pointer-form (function_member c t) u h e = absurd cc

abbrev element_of : SourceType → SourceType
element_of (array t n) = t
element_of t = t

abbrev bound_of : SourceType → ℕ
bound_of (array t n) = n
bound_of t = 0

array_under : (t u : SourceType) (n : ℕ) → is_normal (const t) ≡ true → Same t (array u n) → ⊥
array_under (array t m) u n h e = absurd (true≢false (sym h))
array_under (const t) u n h e = absurd (true≢false (sym h))
array_under void u n h e = absurd cc
array_under (integer k) u n h e = absurd cc
array_under (enumeration m) u n h e = absurd cc
array_under (class c) u n h e = absurd cc
array_under (pointer t) u n h e = absurd cc
array_under (reference t) u n h e = absurd cc
array_under (takes p t) u n h e = absurd cc
array_under (gives t c) u n h e = absurd cc
array_under (data_member c t) u n h e = absurd cc
array_under (function_member c t) u n h e = absurd cc

pub array-form : (t u : SourceType) (n : ℕ) → is_normal t ≡ true → Same t (array u n) → (v : SourceType) × (t ≡ array v n) × Same v u
array-form (array t m) u n h e = (t, ap (array t) (ap bound_of e), ap element_of e)
array-form (const t) u n h e = absurd (array_under t u n h e)
array-form void u n h e = absurd cc
array-form (integer k) u n h e = absurd cc
array-form (enumeration m) u n h e = absurd cc
array-form (class c) u n h e = absurd cc
array-form (pointer t) u n h e = absurd cc
array-form (reference t) u n h e = absurd cc
array-form (takes p t) u n h e = absurd cc
array-form (gives t c) u n h e = absurd cc
array-form (data_member c t) u n h e = absurd cc
array-form (function_member c t) u n h e = absurd cc

pub reference-plain : (t : SourceType) → is_reference (without_const t) ≡ is_reference t
reference-plain void = refl
reference-plain (integer k) = refl
reference-plain (enumeration e) = refl
reference-plain (class c) = refl
reference-plain (pointer t) = refl
reference-plain (reference t) = refl
reference-plain (array t n) = refl
reference-plain (takes p t) = refl
reference-plain (gives t c) = refl
reference-plain (data_member c t) = refl
reference-plain (function_member c t) = refl
reference-plain (const t) = reference-plain t

pub same-reference : (t u : SourceType) → Same t u → is_reference t ≡ is_reference u
same-reference t u h = sym (reference-plain t) ∙ ap is_reference h ∙ reference-plain u

pub operand-plain : (t : SourceType) → is_operand (without_const t) ≡ is_operand t
operand-plain void = refl
operand-plain (integer k) = refl
operand-plain (enumeration e) = refl
operand-plain (class c) = refl
operand-plain (pointer t) = refl
operand-plain (reference t) = refl
operand-plain (array t n) = refl
operand-plain (takes p t) = refl
operand-plain (gives t c) = refl
operand-plain (data_member c t) = refl
operand-plain (function_member c t) = refl
operand-plain (const t) = operand-plain t

pub same-operand : (t u : SourceType) → Same t u → is_operand t ≡ is_operand u
same-operand t u h = sym (operand-plain t) ∙ ap is_operand h ∙ operand-plain u

-- an operand is a scalar, or void; and it is no reference
pub operand-scalar : (t : SourceType) → is_operand t ≡ true → is_void t ≡ false → is_scalar t ≡ true
operand-scalar void h v = absurd (true≢false v)
operand-scalar (integer k) h v = refl
operand-scalar (enumeration e) h v = refl
operand-scalar (class c) h v = absurd (true≢false (sym h))
operand-scalar (pointer t) h v = refl
operand-scalar (reference t) h v = absurd (true≢false (sym h))
operand-scalar (array t n) h v = absurd (true≢false (sym h))
operand-scalar (takes p t) h v = absurd (true≢false (sym h))
operand-scalar (gives t c) h v = absurd (true≢false (sym h))
operand-scalar (data_member c t) h v = refl
operand-scalar (function_member c t) h v = refl
operand-scalar (const t) h v = operand-scalar t h v

pub operand-reference : (t : SourceType) → is_operand t ≡ true → is_reference t ≡ false
operand-reference void h = refl
operand-reference (integer k) h = refl
operand-reference (enumeration e) h = refl
operand-reference (class c) h = absurd (true≢false (sym h))
operand-reference (pointer t) h = refl
operand-reference (reference t) h = absurd (true≢false (sym h))
operand-reference (array t n) h = absurd (true≢false (sym h))
operand-reference (takes p t) h = absurd (true≢false (sym h))
operand-reference (gives t c) h = absurd (true≢false (sym h))
operand-reference (data_member c t) h = refl
operand-reference (function_member c t) h = refl
operand-reference (const t) h = operand-reference t h

pub scalar-operand : (t : SourceType) → is_scalar t ≡ true → is_reference t ≡ false → is_operand t ≡ true
scalar-operand void h r = absurd (true≢false (sym h))
scalar-operand (integer k) h r = refl
scalar-operand (enumeration e) h r = refl
scalar-operand (class c) h r = absurd (true≢false (sym h))
scalar-operand (pointer t) h r = refl
scalar-operand (reference t) h r = absurd (true≢false r)
scalar-operand (array t n) h r = absurd (true≢false (sym h))
scalar-operand (takes p t) h r = absurd (true≢false (sym h))
scalar-operand (gives t c) h r = absurd (true≢false (sym h))
scalar-operand (data_member c t) h r = refl
scalar-operand (function_member c t) h r = refl
scalar-operand (const t) h r = scalar-operand t h r

pub function-operand : (t : SourceType) → is_function t ≡ true → (is_operand t ≡ false) × (is_reference t ≡ false) × (is_void t ≡ false)
function-operand void h = absurd (true≢false (sym h))
function-operand (integer k) h = absurd (true≢false (sym h))
function-operand (enumeration e) h = absurd (true≢false (sym h))
function-operand (class c) h = absurd (true≢false (sym h))
function-operand (pointer t) h = absurd (true≢false (sym h))
function-operand (reference t) h = absurd (true≢false (sym h))
function-operand (array t n) h = absurd (true≢false (sym h))
function-operand (takes p t) h = (refl, refl, refl)
function-operand (gives t c) h = (refl, refl, refl)
function-operand (data_member c t) h = absurd (true≢false (sym h))
function-operand (function_member c t) h = absurd (true≢false (sym h))
function-operand (const t) h = absurd (true≢false (sym h))

-- ---- types that are found to be the same are equal

kind_of : ℕ → Kind
kind_of n =
    if n == 0 then Char else (if n == 1 then SChar else (if n == 2 then UChar else (if n == 3 then Short else (if n == 4 then UShort
    else (if n == 5 then Int else (if n == 6 then UInt else (if n == 7 then Long else ULong)))))))

kind_known : (k : Kind) → kind_of (kind_number k) ≡ k
unfolding kind_of
kind_known Char = refl
kind_known SChar = refl
kind_known UChar = refl
kind_known Short = refl
kind_known UShort = refl
kind_known Int = refl
kind_known UInt = refl
kind_known Long = refl
kind_known ULong = refl

kind-equal : (k l : Kind) → (kind_number k == kind_number l) ≡ true → k ≡ l
kind-equal k l h = sym (kind_known k) ∙ ap kind_of (eqb-true (kind_number k) (kind_number l) h) ∙ kind_known l

bytes-equal : (xs ys : List ℕ) → bytes_eq xs ys ≡ true → xs ≡ ys
bytes-equal xs ys h = same_text xs ys (sym h)

bool-equal : (a b : Bool) → bool_eq a b ≡ true → a ≡ b
bool-equal true b h = sym h
bool-equal false true h = h
bool-equal false false h = refl

pub type-equal : (t u : SourceType) → type_eq t u ≡ true → t ≡ u
type-equal void void h = refl
type-equal (integer k) (integer l) h = ap integer (kind-equal k l h)
type-equal (enumeration e) (enumeration f) h = ap enumeration (bytes-equal e f h)
type-equal (class c) (class d) h = ap class (bytes-equal c d h)
type-equal (pointer t) (pointer u) h = ap pointer (type-equal t u h)
type-equal (reference t) (reference u) h = ap reference (type-equal t u h)
type-equal (array t n) (array u m) h =
    ap (λ x. array x n) (type-equal t u (and-left (type_eq t u) (n == m) h)) ∙ ap (array u) (eqb-true n m (and-right (type_eq t u) (n == m) h))
type-equal (takes p t) (takes q u) h =
    ap (λ x. takes x t) (type-equal p q (and-left (type_eq p q) (type_eq t u) h)) ∙ ap (takes q) (type-equal t u (and-right (type_eq p q) (type_eq t u) h))
type-equal (gives t c) (gives u d) h =
    ap (λ x. gives x c) (type-equal t u (and-left (type_eq t u) (bool_eq c d) h)) ∙ ap (gives u) (bool-equal c d (and-right (type_eq t u) (bool_eq c d) h))
type-equal (data_member c t) (data_member d u) h =
    ap (λ x. data_member x t) (bytes-equal c d (and-left (bytes_eq c d) (type_eq t u) h)) ∙ ap (data_member d) (type-equal t u (and-right (bytes_eq c d) (type_eq t u) h))
type-equal (function_member c t) (function_member d u) h =
    ap (λ x. function_member x t) (bytes-equal c d (and-left (bytes_eq c d) (type_eq t u) h)) ∙ ap (function_member d) (type-equal t u (and-right (bytes_eq c d) (type_eq t u) h))
type-equal (const t) (const u) h = ap const (type-equal t u h)
type-equal t u h = absurd (true≢false (sym h))
