-- Pointers: sums, differences and comparisons (5.7, 5.9, 5.10).
use Rattle.std.proofs.Common.{◌≡◌, Bool, true, false, ◌&&◌, ◌||◌, not, refl, sym, ap, subst, ◌∙◌, true≢false}
use Rattle.cf_base.specs.declared.kind.Kind.TheVariants.{Int}
use Rattle.cf_core.specs.declared.operators.PointerOperator.{PointerOperator}
use Rattle.cf_core.specs.declared.operators.PointerOperator.TheVariants as ptr
use Rattle.cf_core.specs.Types.{SourceType, integer, pointer}
use Rattle.cf_core.specs.Typing.{Typing, is_function, of_value, is_integer, points_to_object, pointers_alike, compares_with_null, may_be_equal, pointer_operated}
use Rattle.cf_core_typed.specs.Same.{is_normal}
use Rattle.cf_core_typed.specs.Meets.{IsValue, Points}
use Rattle.cf_core_typed.proofs.Same.{and-both, same-function}
use Rattle.cf_core_typed.proofs.Values.{of_value-is, value-same}
use Rattle.cf_core_typed.proofs.Operators.{truth-is}

moved-is : (x : Typing) (t : SourceType) (p : Points x t) → IsValue (of_value (pointer p.type)) (pointer t)
moved-is x t p = value-same (of_value (pointer p.type)) (pointer p.type) (pointer t) (ap pointer p.same) (of_value-is (pointer p.type) refl p.normal)

pub add-is : (x y : Typing) (t : SourceType) → points_to_object x ≡ true → Points x t → is_integer y ≡ true → IsValue (pointer_operated ptr.Add x y) (pointer t)
add-is x y t o p i =
    let told : pointer_operated ptr.Add x y ≡ of_value (pointer p.type) = rw (o, i, p.here, pointer_operated) refl in
    subst (λ z. IsValue z (pointer t)) (sym told) (moved-is x t p)

pub add-right-is : (x y : Typing) (t : SourceType) → points_to_object x ≡ false → is_integer x ≡ true → points_to_object y ≡ true → Points y t
    → IsValue (pointer_operated ptr.Add x y) (pointer t)
add-right-is x y t n i o p =
    let told : pointer_operated ptr.Add x y ≡ of_value (pointer p.type) = rw (n, o, i, p.here, pointer_operated) refl in
    subst (λ z. IsValue z (pointer t)) (sym told) (moved-is y t p)

pub subtract-is : (x y : Typing) (t : SourceType) → points_to_object x ≡ true → Points x t → is_integer y ≡ true → IsValue (pointer_operated ptr.Subtract x y) (pointer t)
subtract-is x y t o p i =
    let told : pointer_operated ptr.Subtract x y ≡ of_value (pointer p.type) = rw (o, i, p.here, pointer_operated) refl in
    subst (λ z. IsValue z (pointer t)) (sym told) (moved-is x t p)

-- two pointers to one type
pub alike : (x y : Typing) (t : SourceType) → Points x t → IsValue y (pointer t) → pointers_alike x y ≡ true
alike x y t p v =
    let told : pointers_alike x y ≡ y.value (pointer p.type) = rw (p.here, pointers_alike) refl in
    told ∙ v.value (pointer p.type) (ap pointer (sym p.same))

-- whether an operator asks for an order of objects
abbrev pub is_order : PointerOperator → Bool
is_order ptr.Less = true
is_order ptr.Greater = true
is_order ptr.LessEqual = true
is_order ptr.GreaterEqual = true
is_order ptr.Difference = true
is_order op = false

abbrev pub is_equality : PointerOperator → Bool
is_equality ptr.Equal = true
is_equality ptr.NotEqual = true
is_equality op = false

pub order-is : (op : PointerOperator) (x y : Typing) (t : SourceType) → is_order op ≡ true → points_to_object x ≡ true → Points x t → IsValue y (pointer t)
    → IsValue (pointer_operated op x y) (integer Int)
order-is ptr.Less x y t h o p v = truth-is (points_to_object x && pointers_alike x y) (and-both _ _ o (alike x y t p v))
order-is ptr.Greater x y t h o p v = truth-is (points_to_object x && pointers_alike x y) (and-both _ _ o (alike x y t p v))
order-is ptr.LessEqual x y t h o p v = truth-is (points_to_object x && pointers_alike x y) (and-both _ _ o (alike x y t p v))
order-is ptr.GreaterEqual x y t h o p v = truth-is (points_to_object x && pointers_alike x y) (and-both _ _ o (alike x y t p v))
order-is ptr.Difference x y t h o p v = truth-is (points_to_object x && pointers_alike x y) (and-both _ _ o (alike x y t p v))
order-is ptr.Equal x y t h o p v = absurd (true≢false (sym h))
order-is ptr.NotEqual x y t h o p v = absurd (true≢false (sym h))
order-is ptr.Add x y t h o p v = absurd (true≢false (sym h))
order-is ptr.Subtract x y t h o p v = absurd (true≢false (sym h))

pub equality-is : (op : PointerOperator) (x y : Typing) → is_equality op ≡ true → may_be_equal x y ≡ true → IsValue (pointer_operated op x y) (integer Int)
equality-is ptr.Equal x y h e = truth-is (may_be_equal x y) e
equality-is ptr.NotEqual x y h e = truth-is (may_be_equal x y) e
equality-is ptr.Less x y h e = absurd (true≢false (sym h))
equality-is ptr.Greater x y h e = absurd (true≢false (sym h))
equality-is ptr.LessEqual x y h e = absurd (true≢false (sym h))
equality-is ptr.GreaterEqual x y h e = absurd (true≢false (sym h))
equality-is ptr.Difference x y h e = absurd (true≢false (sym h))
equality-is ptr.Add x y h e = absurd (true≢false (sym h))
equality-is ptr.Subtract x y h e = absurd (true≢false (sym h))

-- pointers to objects or to void are compared
pub objects-equal : (x y : Typing) (t : SourceType) → is_normal t ≡ true → is_function t ≡ false → Points x t → IsValue y (pointer t) → may_be_equal x y ≡ true
objects-equal x y t n f p v =
    let none : compares_with_null x.type ≡ false = ap compares_with_null p.here ∙ same-function p.type t p.same p.normal n ∙ f in
    and-both (pointers_alike x y) (not (compares_with_null x.type) || x.is_null || y.is_null) (alike x y t p v) (ap (λ b. not b || x.is_null || y.is_null) none)

third : (a b c : Bool) → c ≡ true → (a || b || c) ≡ true
third true b c h = refl
third false true c h = refl
third false false c h = h

second : (a b c : Bool) → b ≡ true → (a || b || c) ≡ true
second true b c h = refl
second false true c h = refl
second false false c h = absurd (true≢false (sym h))

-- and any pointer with null
pub null-equal : (x y : Typing) (t : SourceType) → Points x t → IsValue y (pointer t) → y.is_null ≡ true → may_be_equal x y ≡ true
null-equal x y t p v n =
    and-both (pointers_alike x y) (not (compares_with_null x.type) || x.is_null || y.is_null) (alike x y t p v) (third (not (compares_with_null x.type)) x.is_null y.is_null n)

pub null-equal-left : (x y : Typing) (t : SourceType) → Points x t → IsValue y (pointer t) → x.is_null ≡ true → may_be_equal x y ≡ true
null-equal-left x y t p v n =
    and-both (pointers_alike x y) (not (compares_with_null x.type) || x.is_null || y.is_null) (alike x y t p v) (second (not (compares_with_null x.type)) x.is_null y.is_null n)
