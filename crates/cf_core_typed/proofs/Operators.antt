-- Operators on integers, conditions, and changes in place (5.2.5, 5.3, 5.6 to 5.15, 5.17).
use Rattle.std.proofs.Common.{◌≡◌, Bool, true, false, ◌&&◌, not, if◌then◌else◌, Some, pos, refl, sym, ap, subst, ◌∙◌}
use Rattle.cf_base.specs.declared.kind.Kind.{Kind}
use Rattle.cf_base.specs.declared.kind.Kind.TheVariants.{Int}
use Rattle.cf_base.specs.declared.arith.Arith.{Arith}
use Rattle.cf_types.specs.Operators.{is_shift}
use Rattle.cf_core.specs.Types.{SourceType, void, integer, enumeration, class, pointer, reference, array, takes, gives, data_member, function_member, const, plain, same_but_const, is_void}
use Rattle.cf_core.specs.Places.{is_scalar}
use Rattle.cf_core.specs.Core.{Change, arithmetic, moved}
use Rattle.cf_core.specs.Typing.{Scope, Typing, allowed, is_function, of_value, of_number, of_place, is_integer, is_comparison, operated_type, is_right_operand, changes}
use Rattle.cf_core.specs.Typed.{stored, changed_in_place, stepped}
use Rattle.cf_core_typed.specs.Same.{Same, is_normal}
use Rattle.cf_core_typed.specs.Meets.{IsPlace, IsValue}
use Rattle.cf_core_typed.proofs.Same.{and-both, same-told, same-scalar, same-plain, same-function, same-void, plain-bare, plain-normal, pointer-form}
use Rattle.cf_core_typed.proofs.Values.{allow, of_value-is, of_plain-is, of_place-is, place-same, value-same, value-integer}

kind-is : (b : Bool) (k : Kind) → IsValue (of_value (if b then integer Int else integer k)) (if b then integer Int else integer k)
kind-is true k = of_value-is (integer Int) refl refl
kind-is false k = of_value-is (integer k) refl refl

pub truth-is : (b : Bool) → b ≡ true → IsValue (allowed b (of_value (integer Int))) (integer Int)
truth-is b h = allow (λ y. IsValue y (integer Int)) b (of_value (integer Int)) h (of_value-is (integer Int) refl refl)

-- the right operand is of the type, or, of a shift, of an integer type of its own
pub right-operand : (op : Arith) (k l : Kind) (y : Typing) → (is_shift op ≡ false → l ≡ k) → IsValue y (integer l) → is_right_operand op k y ≡ true
right-operand op k l y same v = by (is_shift op) refl
  where
    by : (b : Bool) → is_shift op ≡ b → (if b then is_integer y else y.value (integer k)) ≡ true
    by true e = value-integer y (integer l) refl v
    by false e = v.value (integer k) (ap integer (same e))

pub operate-is : (op : Arith) (k : Kind) (x y : Typing) → IsValue x (integer k) → is_right_operand op k y ≡ true
    → IsValue (allowed (x.value (integer k) && is_right_operand op k y) (of_value (operated_type op k))) (operated_type op k)
operate-is op k x y v r =
    allow (λ z. IsValue z (operated_type op k)) (x.value (integer k) && is_right_operand op k y) (of_value (operated_type op k))
    (and-both (x.value (integer k)) (is_right_operand op k y) (v.value (integer k) refl) r) (kind-is (is_comparison op) k)

pub unary-is : (k : Kind) (x : Typing) → IsValue x (integer k) → IsValue (allowed (x.value (integer k)) (of_value (integer k))) (integer k)
unary-is k x v = allow (λ z. IsValue z (integer k)) (x.value (integer k)) (of_value (integer k)) (v.value (integer k) refl) (of_value-is (integer k) refl refl)

-- ---- in place

module _ (scope : Scope) where
  pub store-is : (x y : Typing) (t : SourceType) → is_scalar t ≡ true → IsPlace x t → IsValue y t → IsPlace (stored scope x.place y) t
  store-is x y t s p v =
      subst (λ o. IsPlace (stored scope o y) t) (sym p.here)
      (allow (λ z. IsPlace z t) (is_scalar p.type && y.value p.type) (of_place p.type)
      (and-both (is_scalar p.type) (y.value p.type) (same-scalar p.type t p.same ∙ s) (v.value p.type (sym p.same)))
      (place-same (of_place p.type) p.type t p.same (of_place-is p.type p.normal)))

  pub update-is : (x : Typing) (t : SourceType) (ok : Bool) → ok ≡ true → IsPlace x t → IsPlace (changed_in_place scope x.place ok) t
  update-is x t ok h p =
      subst (λ o. IsPlace (changed_in_place scope o ok) t) (sym p.here)
      (allow (λ z. IsPlace z t) ok (of_place p.type) h (place-same (of_place p.type) p.type t p.same (of_place-is p.type p.normal)))

  -- behind the operand the value before, and before it the place
  pub step-value-is : (x : Typing) (t : SourceType) (c : Change) → changes c x.place (of_number (pos 1)) ≡ true → IsPlace x t → IsValue (stepped scope true c x.place) t
  step-value-is x t c h p =
      subst (λ o. IsValue (stepped scope true c o) t) (sym p.here)
      (allow (λ z. IsValue z t) (changes c (Some p.type) (of_number (pos 1))) (of_value (plain p.type)) (subst (λ o. changes c o (of_number (pos 1)) ≡ true) p.here h)
      (value-same (of_value (plain p.type)) p.type t p.same (of_plain-is p.type p.normal)))

  pub step-place-is : (x : Typing) (t : SourceType) (c : Change) → changes c x.place (of_number (pos 1)) ≡ true → IsPlace x t → IsPlace (stepped scope false c x.place) t
  step-place-is x t c h p =
      subst (λ o. IsPlace (stepped scope false c o) t) (sym p.here)
      (allow (λ z. IsPlace z t) (changes c (Some p.type) (of_number (pos 1))) (of_place p.type) (subst (λ o. changes c o (of_number (pos 1)) ≡ true) p.here h)
      (place-same (of_place p.type) p.type t p.same (of_place-is p.type p.normal)))

-- an integer of this type changed by an operator
pub arithmetic-changes : (op : Arith) (k l : Kind) (x y : Typing) → is_right_operand op k y ≡ true → IsPlace x (integer l) → changes (arithmetic op k l) x.place y ≡ true
arithmetic-changes op k l x y r p =
    ap (λ o. changes (arithmetic op k l) o y) p.here ∙ and-both (same_but_const p.type (integer l)) (is_right_operand op k y) (same-told p.type (integer l) p.same) r

moved_by : (back : Bool) (u t : SourceType) (y : Typing) → is_normal u ≡ true → is_normal t ≡ true → is_function t ≡ false → is_void t ≡ false → Same u (pointer t)
    → is_integer y ≡ true → (v : SourceType) → plain u ≡ pointer v → Same v t → is_normal v ≡ true → changes (moved back) (Some u) y ≡ true
moved_by back (pointer w) t y n m f o e i v s q r =
    let fine = and-both (not (is_function v)) (not (is_void v)) (ap not (same-function v t q r m ∙ f)) (ap not (same-void v t q ∙ o)) in
    ap (λ z. changes (moved back) (Some z) y) s ∙ and-both (not (is_function v) && not (is_void v)) (is_integer y) fine i
moved_by back (const w) t y n m f o e i v s q r =
    let fine = and-both (not (is_function v)) (not (is_void v)) (ap not (same-function v t q r m ∙ f)) (ap not (same-void v t q ∙ o)) in
    ap (λ z. changes (moved back) (Some (const z)) y) s ∙ and-both (not (is_function v) && not (is_void v)) (is_integer y) fine i
moved_by back void t y n m f o e i v s q r = absurd cc
moved_by back (integer k) t y n m f o e i v s q r = absurd cc
moved_by back (enumeration a) t y n m f o e i v s q r = absurd cc
moved_by back (class c) t y n m f o e i v s q r = absurd cc
moved_by back (reference w) t y n m f o e i v s q r = absurd cc
moved_by back (array w a) t y n m f o e i v s q r = absurd cc
moved_by back (takes a w) t y n m f o e i v s q r = absurd cc
moved_by back (gives w c) t y n m f o e i v s q r = absurd cc
moved_by back (data_member c w) t y n m f o e i v s q r = absurd cc
moved_by back (function_member c w) t y n m f o e i v s q r = absurd cc

-- a pointer to an object moved by an integer
pub pointer-changes : (back : Bool) (t : SourceType) (x y : Typing) → is_normal t ≡ true → is_function t ≡ false → is_void t ≡ false → is_integer y ≡ true
    → IsPlace x (pointer t) → changes (moved back) x.place y ≡ true
pointer-changes back t x y m f o i p =
    let u = p.type in
    let form = pointer-form (plain u) t (plain-bare u p.normal) (same-plain u ∙ p.same) in
    ap (λ a. changes (moved back) a y) p.here
    ∙ moved_by back u t y p.normal m f o p.same i form.0 form.1 form.2 (subst (λ w. is_normal w ≡ true) form.1 (plain-normal u p.normal))
