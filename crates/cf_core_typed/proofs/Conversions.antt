-- Conversions (4, 5.4).
use Rattle.std.proofs.Common.{◌≡◌, Bool, true, false, ◌||◌, Option, ℤ, refl, sym, ap, ◌∙◌, true≢false}
use Rattle.cf_core.specs.Types.{SourceType, void, integer, enumeration, class, pointer, reference, array, takes, gives, data_member, function_member, const, plain, same_but_const, is_void}
use Rattle.cf_core.specs.Typing.{Scope, Typing, allowed, is_integral, of_value, null_if, is_zero, is_integer, pointed, converts, to_pointer}
use Rattle.cf_core.specs.Typed.{void_pointer}
use Rattle.cf_core_typed.specs.Same.{is_bare, is_normal}
use Rattle.cf_core_typed.specs.Meets.{IsValue, Points}
use Rattle.cf_core_typed.proofs.Same.{same-void, plain-bare}
use Rattle.cf_core_typed.proofs.Values.{allow, of_value-is, of_plain-is, null_if-is}

-- what a conversion node is, by its operand
abbrev pub converted : SourceType → Typing → Typing
converted t x = allowed (converts (plain t) x) (null_if (is_zero x.number) (of_value (plain t)))

pub converted-is : (t : SourceType) (x : Typing) → is_normal t ≡ true → converts (plain t) x ≡ true → IsValue (converted t x) t
converted-is t x n h =
    allow (λ y. IsValue y t) (converts (plain t) x) (null_if (is_zero x.number) (of_value (plain t))) h (null_if-is (is_zero x.number) (of_value (plain t)) t (of_plain-is t n))

-- a null pointer is one
pub null-is : (t : SourceType) (x : Typing) → converts (plain t) x ≡ true → is_zero x.number ≡ true → (converted t x).is_null ≡ true
null-is t x h z = ap (λ b. (allowed b (null_if (is_zero x.number) (of_value (plain t)))).is_null) h ∙ z

-- ---- what is converted

pub to-integer : (t : SourceType) (x : Typing) → is_integral t ≡ true → is_integer x ≡ true → converts t x ≡ true
to-integer (integer k) x h i = i
to-integer (enumeration e) x h i = i
to-integer void x h i = absurd (true≢false (sym h))
to-integer (class c) x h i = absurd (true≢false (sym h))
to-integer (pointer t) x h i = absurd (true≢false (sym h))
to-integer (reference t) x h i = absurd (true≢false (sym h))
to-integer (array t n) x h i = absurd (true≢false (sym h))
to-integer (takes p t) x h i = absurd (true≢false (sym h))
to-integer (gives t c) x h i = absurd (true≢false (sym h))
to-integer (data_member c t) x h i = absurd (true≢false (sym h))
to-integer (function_member c t) x h i = absurd (true≢false (sym h))
to-integer (const t) x h i = absurd (true≢false (sym h))

first-holds : (a b : Bool) → a ≡ true → (a || b) ≡ true
first-holds true b h = refl
first-holds false b h = absurd (true≢false (sym h))

second-holds : (a b : Bool) → b ≡ true → (a || b) ≡ true
second-holds true b h = refl
second-holds false b h = h

zero-pointer : (t : SourceType) (x : Typing) (n : Option ℤ) → x.number ≡ n → is_zero n ≡ true → to_pointer t x ≡ true
zero-pointer t x n e h = rw (ap is_zero e ∙ h) refl

-- the constant 0 to a pointer
pub null-pointer : (t : SourceType) (x : Typing) → is_zero x.number ≡ true → converts (pointer t) x ≡ true
null-pointer t x h = zero-pointer t x x.number refl h

plain-void : (t : SourceType) → is_bare (plain t) ≡ true → is_void t ≡ true → is_void (plain t) ≡ true
plain-void (const t) b h = h
plain-void void b h = h
plain-void (integer k) b h = h
plain-void (enumeration e) b h = h
plain-void (class c) b h = h
plain-void (pointer t) b h = h
plain-void (reference t) b h = h
plain-void (array t n) b h = h
plain-void (takes p t) b h = h
plain-void (gives t c) b h = h
plain-void (data_member c t) b h = h
plain-void (function_member c t) b h = h

casts-void : (z same v : Bool) → v ≡ true → (z || (same || v)) ≡ true
casts-void true same v h = refl
casts-void false true v h = refl
casts-void false false v h = h

-- a pointer to a pointer to void
pub to-void-pointer : (t u : SourceType) (x : Typing) → is_normal t ≡ true → is_void t ≡ true → Points x u → converts (pointer t) x ≡ true
to-void-pointer t u x n v p =
    let told : converts (pointer t) x ≡ (is_zero x.number || (same_but_const t p.type || is_void (plain t))) = rw p.here refl in
    told ∙ casts-void (is_zero x.number) (same_but_const t p.type) (is_void (plain t)) (plain-void t (plain-bare t n) v)

-- from a pointer to void
pub from-void-is : (scope : Scope) (t u : SourceType) (x : Typing) → is_normal t ≡ true → is_void u ≡ true → Points x u
    → IsValue (allowed (void_pointer scope (pointed x.type)) (of_value (pointer t))) (pointer t)
from-void-is scope t u x n v p =
    allow (λ y. IsValue y (pointer t)) (void_pointer scope (pointed x.type)) (of_value (pointer t))
    (ap (λ o. void_pointer scope (pointed o)) p.here ∙ same-void p.type u p.same ∙ v) (of_value-is (pointer t) refl n)
