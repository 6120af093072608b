-- Types of one shape answer alike, and the parts of an object of a proper type are of proper types.
use Rattle.std.proofs.Common.{◌≡◌, ℕ, ◌≤◌, Bool, true, false, ◌&&◌, not, nat_le, [], ◌∷◌, refl, sym, ap, ◌∙◌, subst, true≢false, arith}
use Rattle.std.proofs.lemmas.Bool.Decides.{nat_tests}
use Rattle.cf_base.proofs.Tests.{both}
use Rattle.cf_core.specs.Types.{SourceType, void, integer, enumeration, class, pointer, reference, array, takes, gives, data_member, function_member, const, plain, element, without_const, same_but_const, is_void}
use Rattle.cf_core.specs.Core.{Part, item, past, field, within}
use Rattle.cf_core.specs.Places.{Route, type_at, part_type, bound, is_scalar, is_reference}
use Rattle.cf_core.specs.Typing.{is_function}
use Rattle.cf_core_typed.specs.Same.{takes_const}
use Rattle.cf_core_typed.proofs.Same.{type-equal}
use Rattle.cf_core_sound.specs.Proper.{most, is_proper, Whole, shape}

-- ---- what is the same but for const has one shape

shape-without : (t : SourceType) → shape (without_const t) ≡ shape t
shape-without void = refl
shape-without (integer k) = refl
shape-without (enumeration e) = refl
shape-without (class c) = refl
shape-without (pointer t) = ap pointer (shape-without t)
shape-without (reference t) = ap reference (shape-without t)
shape-without (array t n) = ap (λ u. array u 0) (shape-without t)
shape-without (takes p t) = ap (λ q. takes q (shape (without_const t))) (shape-without p) ∙ ap (takes (shape p)) (shape-without t)
shape-without (gives t c) = ap (λ u. gives u false) (shape-without t)
shape-without (data_member c t) = ap (data_member c) (shape-without t)
shape-without (function_member c t) = ap (function_member c) (shape-without t)
shape-without (const t) = shape-without t

pub same-shape : (t u : SourceType) → same_but_const t u ≡ true → shape t ≡ shape u
same-shape t u h = sym (shape-without t) ∙ ap shape (type-equal (without_const t) (without_const u) h) ∙ shape-without u

-- ---- what does not look at const and bounds

pub scalar-shape : (t : SourceType) → is_scalar (shape t) ≡ is_scalar t
scalar-shape void = refl
scalar-shape (integer k) = refl
scalar-shape (enumeration e) = refl
scalar-shape (class c) = refl
scalar-shape (pointer t) = refl
scalar-shape (reference t) = refl
scalar-shape (array t n) = refl
scalar-shape (takes p t) = refl
scalar-shape (gives t c) = refl
scalar-shape (data_member c t) = refl
scalar-shape (function_member c t) = refl
scalar-shape (const t) = scalar-shape t

pub void-shape : (t : SourceType) → is_void (shape t) ≡ is_void t
void-shape void = refl
void-shape (integer k) = refl
void-shape (enumeration e) = refl
void-shape (class c) = refl
void-shape (pointer t) = refl
void-shape (reference t) = refl
void-shape (array t n) = refl
void-shape (takes p t) = refl
void-shape (gives t c) = refl
void-shape (data_member c t) = refl
void-shape (function_member c t) = refl
void-shape (const t) = void-shape t

pub reference-shape : (t : SourceType) → is_reference (shape t) ≡ is_reference t
reference-shape void = refl
reference-shape (integer k) = refl
reference-shape (enumeration e) = refl
reference-shape (class c) = refl
reference-shape (pointer t) = refl
reference-shape (reference t) = refl
reference-shape (array t n) = refl
reference-shape (takes p t) = refl
reference-shape (gives t c) = refl
reference-shape (data_member c t) = refl
reference-shape (function_member c t) = refl
reference-shape (const t) = reference-shape t

under-const : (t : SourceType) → takes_const t ≡ true → is_function (shape t) ≡ false
under-const void h = refl
under-const (integer k) h = refl
under-const (enumeration e) h = refl
under-const (class c) h = refl
under-const (pointer t) h = refl
under-const (reference t) h = refl
under-const (array t n) h = refl
under-const (takes p t) h = absurd (true≢false (sym h))
under-const (gives t c) h = absurd (true≢false (sym h))
under-const (data_member c t) h = refl
under-const (function_member c t) h = refl
under-const (const t) h = absurd (true≢false (sym h))

pub function-shape : (t : SourceType) → is_proper t ≡ true → is_function (shape t) ≡ is_function t
function-shape void h = refl
function-shape (integer k) h = refl
function-shape (enumeration e) h = refl
function-shape (class c) h = refl
function-shape (pointer t) h = refl
function-shape (reference t) h = refl
function-shape (array t n) h = refl
function-shape (takes p t) h = refl
function-shape (gives t c) h = refl
function-shape (data_member c t) h = refl
function-shape (function_member c t) h = refl
function-shape (const t) h = under-const t (both (takes_const t) (is_proper t) h).0

pub plain-shape : (t : SourceType) → shape (plain t) ≡ shape t
plain-shape (const t) = refl
plain-shape void = refl
plain-shape (integer k) = refl
plain-shape (enumeration e) = refl
plain-shape (class c) = refl
plain-shape (pointer t) = refl
plain-shape (reference t) = refl
plain-shape (array t n) = refl
plain-shape (takes p t) = refl
plain-shape (gives t c) = refl
plain-shape (data_member c t) = refl
plain-shape (function_member c t) = refl

pub plain-proper : (t : SourceType) → is_proper t ≡ true → is_proper (plain t) ≡ true
plain-proper (const t) h = (both (takes_const t) (is_proper t) h).1
plain-proper void h = h
plain-proper (integer k) h = h
plain-proper (enumeration e) h = h
plain-proper (class c) h = h
plain-proper (pointer t) h = h
plain-proper (reference t) h = h
plain-proper (array t n) h = h
plain-proper (takes p t) h = h
plain-proper (gives t c) h = h
plain-proper (data_member c t) h = h
plain-proper (function_member c t) h = h

pub plain-reference : (t : SourceType) → is_reference (plain t) ≡ is_reference t
plain-reference t = sym (reference-shape (plain t)) ∙ ap is_reference (plain-shape t) ∙ reference-shape t

pub plain-whole : (t : SourceType) → Whole t → Whole (plain t)
plain-whole t h = record { proper = plain-proper t h.proper; no_reference = plain-reference t ∙ h.no_reference }

-- ---- whole types

not-true : (b : Bool) → not b ≡ true → b ≡ false
not-true true h = absurd (true≢false (sym h))
not-true false h = refl

pub whole-told : (t : SourceType) → not (is_reference t) && is_proper t ≡ true → Whole t
whole-told t h = let parts = both (not (is_reference t)) (is_proper t) h in record { proper = parts.1; no_reference = not-true (is_reference t) parts.0 }

pub whole-tested : (t : SourceType) → is_proper t && not (is_reference t) ≡ true → Whole t
whole-tested t h = let parts = both (is_proper t) (not (is_reference t)) h in record { proper = parts.0; no_reference = not-true (is_reference t) parts.1 }

pub pointed-whole : (t : SourceType) → is_proper (pointer t) ≡ true → Whole t
pointed-whole t h = whole-told t h

pub referred-whole : (t : SourceType) → is_proper (reference t) ≡ true → Whole t
referred-whole t h = whole-told t h

-- an array's elements, and their number
pub record Elements (t : SourceType) (n : ℕ) : Type 0 where
  pub whole : Whole t
  pub object : is_function t ≡ false
  pub near : nat_le n most ≡ true

pub elements-told : (t : SourceType) (n : ℕ) → is_proper (array t n) ≡ true → Elements t n
elements-told t n h =
    let parts = both (not (is_reference t)) (is_proper t && (not (is_function t) && nat_le n most)) h in
    let inner = both (is_proper t) (not (is_function t) && nat_le n most) parts.1 in
    let last = both (not (is_function t)) (nat_le n most) inner.1 in
    record {
      whole = record { proper = inner.0; no_reference = not-true (is_reference t) parts.0 };
      object = not-true (is_function t) last.0;
      near = last.1;
    }

pub element-whole : (t : SourceType) (n : ℕ) → is_proper (array t n) ≡ true → Whole t
element-whole t n h = (elements-told t n h).whole

pub pointer-whole : (t : SourceType) → Whole t → Whole (pointer t)
pointer-whole t h = record { proper = subst (λ b. not b && is_proper t ≡ true) (sym h.no_reference) h.proper; no_reference = refl }

-- ---- parts of objects

element-proper : (t : SourceType) → is_proper t ≡ true → is_proper (element t) ≡ true
element-proper (array t n) h = (element-whole t n h).proper
element-proper void h = h
element-proper (integer k) h = h
element-proper (enumeration e) h = h
element-proper (class c) h = h
element-proper (pointer t) h = h
element-proper (reference t) h = h
element-proper (takes p t) h = h
element-proper (gives t c) h = h
element-proper (data_member c t) h = h
element-proper (function_member c t) h = h
element-proper (const t) h = h

part-proper : (t : SourceType) (s : Part) → is_proper t ≡ true → is_proper (part_type [] t s) ≡ true
part-proper t (item i) h = element-proper (plain t) (plain-proper t h)
part-proper t past h = h
part-proper t (field i) h = refl
part-proper t (within s) h = refl

pub at-proper : (t : SourceType) (π : Route) → is_proper t ≡ true → is_proper (type_at [] t π) ≡ true
at-proper t [] h = h
at-proper t (s ∷ π) h = part-proper (type_at [] t π) s (at-proper t π h)

element-reference : (t : SourceType) → Whole t → is_reference (element t) ≡ false
element-reference (array t n) h = (element-whole t n h.proper).no_reference
element-reference void h = h.no_reference
element-reference (integer k) h = h.no_reference
element-reference (enumeration e) h = h.no_reference
element-reference (class c) h = h.no_reference
element-reference (pointer t) h = h.no_reference
element-reference (reference t) h = h.no_reference
element-reference (takes p t) h = h.no_reference
element-reference (gives t c) h = h.no_reference
element-reference (data_member c t) h = h.no_reference
element-reference (function_member c t) h = h.no_reference
element-reference (const t) h = h.no_reference

part-reference : (t : SourceType) (s : Part) → Whole t → is_reference (part_type [] t s) ≡ false
part-reference t (item i) h = element-reference (plain t) (plain-whole t h)
part-reference t past h = h.no_reference
part-reference t (field i) h = refl
part-reference t (within s) h = refl

pub at-whole : (t : SourceType) (π : Route) → Whole t → Whole (type_at [] t π)
at-whole t [] h = h
at-whole t (s ∷ π) h = record { proper = at-proper t (s ∷ π) h.proper; no_reference = part-reference (type_at [] t π) s (at-whole t π h) }

le-told : (n m : ℕ) → nat_le n m ≡ true → n ≤ m
le-told n m h = grind (arith, nat_tests, h)

pub bound-near : (t : SourceType) → is_proper t ≡ true → bound t ≤ most
bound-near (array t n) h = le-told n most (elements-told t n h).near
bound-near (const t) h = bound-near t (both (takes_const t) (is_proper t) h).1
bound-near void h = omega arith
bound-near (integer k) h = omega arith
bound-near (enumeration e) h = omega arith
bound-near (class c) h = omega arith
bound-near (pointer t) h = omega arith
bound-near (reference t) h = omega arith
bound-near (takes p t) h = omega arith
bound-near (gives t c) h = omega arith
bound-near (data_member c t) h = omega arith
bound-near (function_member c t) h = omega arith

-- ---- arrays

-- a proper type of the shape of an array is one, without a const on it
pub record Array (t : SourceType) (u : SourceType) : Type 0 where
  pub element : SourceType
  pub length : ℕ
  pub is : t ≡ array element length
  pub same : shape element ≡ u

abbrev inside : SourceType → SourceType
inside (array t n) = t
inside t = t

array-under : (t u : SourceType) → takes_const t ≡ true → shape t ≡ array u 0 → ⊥
array-under void u h e = absurd (cc)
array-under (integer k) u h e = absurd (cc)
array-under (enumeration n) u h e = absurd (cc)
array-under (class c) u h e = absurd (cc)
array-under (pointer t) u h e = absurd (cc)
array-under (reference t) u h e = absurd (cc)
array-under (array t n) u h e = true≢false (sym h)
array-under (takes p t) u h e = absurd (cc)
array-under (gives t c) u h e = absurd (cc)
array-under (data_member c t) u h e = absurd (cc)
array-under (function_member c t) u h e = absurd (cc)
array-under (const t) u h e = true≢false (sym h)

pub array-form : (t u : SourceType) → is_proper t ≡ true → shape t ≡ array u 0 → Array t u
array-form (array t n) u h e = record { element = t; length = n; is = refl; same = ap inside e }
array-form (const t) u h e = absurd (array-under t u (both (takes_const t) (is_proper t) h).0 e)
array-form void u h e = absurd (cc)
array-form (integer k) u h e = absurd (cc)
array-form (enumeration n) u h e = absurd (cc)
array-form (class c) u h e = absurd (cc)
array-form (pointer t) u h e = absurd (cc)
array-form (reference t) u h e = absurd (cc)
array-form (takes p t) u h e = absurd (cc)
array-form (gives t c) u h e = absurd (cc)
array-form (data_member c t) u h e = absurd (cc)
array-form (function_member c t) u h e = absurd (cc)
