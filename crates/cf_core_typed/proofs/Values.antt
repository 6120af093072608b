-- Values and places of a type: what operands may ask of them.
use Rattle.std.proofs.Common.{◌≡◌, ℕ, ◌≤◌, Bool, true, false, ◌&&◌, ◌||◌, not, nat_lt, ℤ, pos, negsuc, ◌⊎◌, inl, inr, Some, is_some, refl, sym, ap, subst, ◌∙◌, true≢false, arith}
use Rattle.std.proofs.lemmas.Bool.Decides.{nat_tests}
use Rattle.cf_base.specs.declared.kind.Kind.{Kind}
use Rattle.cf_base.specs.declared.kind.Kind.TheVariants.{Char, SChar, UChar, Short, UShort, Int, UInt, Long, ULong}
use Rattle.cf_base.specs.Integers.{fits}
use Rattle.cf_core.specs.Types.{SourceType, void, integer, enumeration, class, pointer, reference, array, takes, gives, data_member, function_member, const, plain, without_const, is_void}
use Rattle.cf_core.specs.Places.{is_scalar}
use Rattle.cf_core.specs.Typing.{Typing, allowed, is_integral, is_function, of_value, of_number, of_place, null_if, holds_number, integral_type, is_integer, scalar_type, is_condition, is_expression, points_to_object, same_type}
use Rattle.cf_core_typed.specs.Same.{Same, is_bare, is_normal}
use Rattle.cf_core_typed.specs.Meets.{IsPlace, Typed, Untyped, IsValue, Points, wide, wide_kind}
use Rattle.cf_core_typed.proofs.Same.{and-both, same-told, same-scalar, same-void, same-function, integral-bare, pointer-form, same-plain, plain-bare, plain-normal}

-- ---- what is allowed

pub allow : (P : Typing → Type 0) (b : Bool) (x : Typing) → b ≡ true → P x → P (allowed b x)
allow P b x h p = subst (λ c. P (allowed c x)) (sym h) p

or-left : (a b : Bool) → a ≡ true → (a || b) ≡ true
or-left true b h = refl
or-left false b h = absurd (true≢false (sym h))

or-right : (a b : Bool) → b ≡ true → (a || b) ≡ true
or-right true b h = refl
or-right false b h = h

later : (a b c d : Bool) → (c || d) ≡ true → (a || b || c || d) ≡ true
later true b c d h = refl
later false true c d h = refl
later false false c d h = h

-- ---- a value of one type is one of each that is the same but for const

wide-plain : (t : SourceType) → is_integral (without_const t) ≡ true → wide (without_const t) ≡ wide t
wide-plain (integer k) h = refl
wide-plain (enumeration e) h = refl
wide-plain (const t) h = wide-plain t h
wide-plain void h = refl
wide-plain (class c) h = refl
wide-plain (pointer t) h = refl
wide-plain (reference t) h = refl
wide-plain (array t n) h = refl
wide-plain (takes p t) h = refl
wide-plain (gives t c) h = refl
wide-plain (data_member c t) h = refl
wide-plain (function_member c t) h = refl

same-wide : (t u : SourceType) → Same t u → is_integral (without_const t) ≡ true → wide t ≡ wide u
same-wide t u e h = sym (wide-plain t h) ∙ ap wide e ∙ wide-plain u (subst (λ w. is_integral w ≡ true) e h)

pub place-same : (x : Typing) (t u : SourceType) → Same t u → IsPlace x t → IsPlace x u
place-same x t u e p = record { type = p.type; here = p.here; same = p.same ∙ e; normal = p.normal }

pub points-same : (x : Typing) (t u : SourceType) → Same t u → Points x t → Points x u
points-same x t u e p = record { type = p.type; here = p.here; same = p.same ∙ e; normal = p.normal }

form-same : (x : Typing) (t u : SourceType) → Same t u → Typed x t ⊎ Untyped x t → Typed x u ⊎ Untyped x u
form-same x t u e (inl p) = inl (record { type = p.type; here = p.here; same = p.same ∙ e; bare = p.bare; normal = p.normal })
form-same x t u e (inr p) = inr (record {
  untold = p.untold;
  integral = subst (λ w. is_integral w ≡ true) e p.integral;
  wide = subst (λ w. x.value w ≡ true) (same-wide t u e p.integral) p.wide;
})

pub value-same : (x : Typing) (t u : SourceType) → Same t u → IsValue x t → IsValue x u
value-same x t u e v = record {
  value = λ w h. v.value w (e ∙ h);
  start = λ s w h. v.start (same-scalar t u e ∙ s) w (e ∙ h);
  form = form-same x t u e v.form;
}

-- ---- what operands ask

wide-number : (x : Typing) (k : Kind) → x.value (integer (wide_kind k)) ≡ true → (x.value (integer Int) || x.value (integer ULong)) ≡ true
wide-number x UInt h = or-right (x.value (integer Int)) _ h
wide-number x ULong h = or-right (x.value (integer Int)) _ h
wide-number x Char h = or-left _ _ h
wide-number x SChar h = or-left _ _ h
wide-number x UChar h = or-left _ _ h
wide-number x Short h = or-left _ _ h
wide-number x UShort h = or-left _ _ h
wide-number x Int h = or-left _ _ h
wide-number x Long h = or-left _ _ h

wide-integer : (x : Typing) (t : SourceType) → is_integral (without_const t) ≡ true → x.value (wide t) ≡ true → (x.value (integer Int) || x.value (integer ULong)) ≡ true
wide-integer x (integer k) i h = wide-number x k h
wide-integer x (enumeration e) i h = or-left _ _ h
wide-integer x (const t) i h = wide-integer x t i h
wide-integer x void i h = or-left _ _ h
wide-integer x (class c) i h = or-left _ _ h
wide-integer x (pointer t) i h = or-left _ _ h
wide-integer x (reference t) i h = or-left _ _ h
wide-integer x (array t n) i h = or-left _ _ h
wide-integer x (takes p t) i h = or-left _ _ h
wide-integer x (gives t c) i h = or-left _ _ h
wide-integer x (data_member c t) i h = or-left _ _ h
wide-integer x (function_member c t) i h = or-left _ _ h

typed-integral : (x : Typing) (t : SourceType) (p : Typed x t) → is_integral (without_const t) ≡ true → integral_type x.type ≡ true
typed-integral x t p h =
    ap integral_type p.here ∙ sym (integral-bare p.type p.bare) ∙ ap is_integral p.same ∙ h

pub value-integer : (x : Typing) (t : SourceType) → is_integral (without_const t) ≡ true → IsValue x t → is_integer x ≡ true
value-integer x t h v = by v.form
  where
    by : Typed x t ⊎ Untyped x t → is_integer x ≡ true
    by (inl p) = ap (λ b. b || is_some x.number || x.value (integer Int) || x.value (integer ULong)) (typed-integral x t p h)
    by (inr p) = later (integral_type x.type) (is_some x.number) (x.value (integer Int)) (x.value (integer ULong)) (wide-integer x t p.integral p.wide)

pub value-condition : (x : Typing) (t : SourceType) → is_scalar t ≡ true → IsValue x t → is_condition x ≡ true
value-condition x t h v = by v.form
  where
    by : Typed x t ⊎ Untyped x t → is_condition x ≡ true
    by (inl p) = or-right (is_integer x) _ (ap scalar_type p.here ∙ same-scalar p.type t p.same ∙ h)
    by (inr p) = or-left (is_integer x) _ (value-integer x t p.integral v)

pub value-expression : (x : Typing) (t : SourceType) → IsValue x t → is_expression x ≡ true
value-expression x t v = by v.form
  where
    by : Typed x t ⊎ Untyped x t → is_expression x ≡ true
    by (inl p) = or-left (is_some x.place || is_some x.type) (is_integer x) (or-right (is_some x.place) (is_some x.type) (ap is_some p.here))
    by (inr p) = or-right (is_some x.place || is_some x.type) (is_integer x) (value-integer x t p.integral v)

pub place-expression : (x : Typing) (t : SourceType) → IsPlace x t → is_expression x ≡ true
place-expression x t p = or-left (is_some x.place || is_some x.type) (is_integer x) (or-left (is_some x.place) (is_some x.type) (ap is_some p.here))

pub value-points : (x : Typing) (t : SourceType) → IsValue x (pointer t) → Points x t
value-points x t v = by v.form
  where
    by : Typed x (pointer t) ⊎ Untyped x (pointer t) → Points x t
    by (inl p) =
        let f = pointer-form p.type t p.bare p.same in record {
          type = f.0;
          here = p.here ∙ ap Some f.1;
          same = f.2;
          normal = subst (λ w. is_normal w ≡ true) f.1 p.normal;
        }
    by (inr p) = absurd (true≢false (sym p.integral))

pub points-object : (x : Typing) (t : SourceType) → is_normal t ≡ true → is_function t ≡ false → is_void t ≡ false → Points x t → points_to_object x ≡ true
points-object x t n f v p =
    let told : points_to_object x ≡ (not (is_function p.type) && not (is_void p.type)) = rw p.here refl in
    told ∙ and-both _ _ (ap not (same-function p.type t p.same p.normal n ∙ f)) (ap not (same-void p.type t p.same ∙ v))

pub place-is : (x : Typing) (t : SourceType) → IsPlace x t → same_type x.place t ≡ true
place-is x t p = ap (λ o. same_type o t) p.here ∙ same-told p.type t p.same

-- ---- forms

pub of_value-is : (t : SourceType) → is_bare t ≡ true → is_normal t ≡ true → IsValue (of_value t) t
of_value-is t b n = record {
  value = λ u h. same-told t u h;
  start = λ s u h. and-both (is_scalar u) _ (sym (same-scalar t u h) ∙ s) (same-told t u h);
  form = inl (record { type = t; here = refl; same = refl; bare = b; normal = n });
}

-- a value of the type without its const
pub of_plain-is : (t : SourceType) → is_normal t ≡ true → IsValue (of_value (plain t)) t
of_plain-is t n = value-same (of_value (plain t)) (plain t) t (same-plain t) (of_value-is (plain t) (plain-bare t n) (plain-normal t n))

pub null_if-is : (b : Bool) (x : Typing) (t : SourceType) → IsValue x t → IsValue (null_if b x) t
null_if-is b x t v = record { value = v.value; start = v.start; form = by v.form }
  where
    by : Typed x t ⊎ Untyped x t → Typed (null_if b x) t ⊎ Untyped (null_if b x) t
    by (inl p) = inl (record { type = p.type; here = p.here; same = p.same; bare = p.bare; normal = p.normal })
    by (inr p) = inr (record { untold = p.untold; integral = p.integral; wide = p.wide })

pub of_place-is : (t : SourceType) → is_normal t ≡ true → IsPlace (of_place t) t
of_place-is t n = record { type = t; here = by (is_function t) refl; same = refl; normal = n }
  where
    by : (b : Bool) → is_function t ≡ b → (of_place t).place ≡ Some t
    by true e = rw (e, of_place) refl
    by false e = rw (e, of_place) refl

-- ---- constants

holds-plain : (z : ℤ) (t : SourceType) → holds_number z (without_const t) ≡ holds_number z t
holds-plain z void = refl
holds-plain z (integer k) = refl
holds-plain z (enumeration e) = refl
holds-plain z (class c) = refl
holds-plain z (pointer t) = refl
holds-plain z (reference t) = refl
holds-plain z (array t n) = refl
holds-plain z (takes p t) = refl
holds-plain z (gives t c) = refl
holds-plain z (data_member c t) = refl
holds-plain z (function_member c t) = refl
holds-plain z (const t) = holds-plain z t

pub same-holds : (z : ℤ) (t u : SourceType) → Same t u → holds_number z t ≡ holds_number z u
same-holds z t u h = sym (holds-plain z t) ∙ ap (holds_number z) h ∙ holds-plain z u

below : (n m top : ℕ) → m ≤ top → nat_lt n m ≡ true → nat_lt n top ≡ true
below n m top le h = grind (arith, nat_tests, le, h)

wide-fits : (k : Kind) (z : ℤ) → fits k z ≡ true → fits (wide_kind k) z ≡ true
wide-fits Char (pos n) h = below n 128 2147483648 (omega arith) h
wide-fits SChar (pos n) h = below n 128 2147483648 (omega arith) h
wide-fits UChar (pos n) h = below n 256 2147483648 (omega arith) h
wide-fits Short (pos n) h = below n 32768 2147483648 (omega arith) h
wide-fits UShort (pos n) h = below n 65536 2147483648 (omega arith) h
wide-fits Int z h = h
wide-fits UInt z h = h
wide-fits Long z h = h
wide-fits ULong z h = h
wide-fits Char (negsuc n) h = below n 128 2147483648 (omega arith) h
wide-fits SChar (negsuc n) h = below n 128 2147483648 (omega arith) h
wide-fits UChar (negsuc n) h = absurd (true≢false (sym h))
wide-fits Short (negsuc n) h = below n 32768 2147483648 (omega arith) h
wide-fits UShort (negsuc n) h = absurd (true≢false (sym h))

number-wide : (z : ℤ) (t : SourceType) → holds_number z t ≡ true → holds_number z (wide t) ≡ true
number-wide z (integer k) h = wide-fits k z h
number-wide z (enumeration e) h = h
number-wide z (const t) h = number-wide z t h
number-wide z void h = absurd (true≢false (sym h))
number-wide z (class c) h = absurd (true≢false (sym h))
number-wide z (pointer t) h = absurd (true≢false (sym h))
number-wide z (reference t) h = absurd (true≢false (sym h))
number-wide z (array t n) h = absurd (true≢false (sym h))
number-wide z (takes p t) h = absurd (true≢false (sym h))
number-wide z (gives t c) h = absurd (true≢false (sym h))
number-wide z (data_member c t) h = absurd (true≢false (sym h))
number-wide z (function_member c t) h = absurd (true≢false (sym h))

pub number-integral : (z : ℤ) (t : SourceType) → holds_number z t ≡ true → is_integral (without_const t) ≡ true
number-integral z (integer k) h = refl
number-integral z (enumeration e) h = refl
number-integral z (const t) h = number-integral z t h
number-integral z void h = absurd (true≢false (sym h))
number-integral z (class c) h = absurd (true≢false (sym h))
number-integral z (pointer t) h = absurd (true≢false (sym h))
number-integral z (reference t) h = absurd (true≢false (sym h))
number-integral z (array t n) h = absurd (true≢false (sym h))
number-integral z (takes p t) h = absurd (true≢false (sym h))
number-integral z (gives t c) h = absurd (true≢false (sym h))
number-integral z (data_member c t) h = absurd (true≢false (sym h))
number-integral z (function_member c t) h = absurd (true≢false (sym h))

-- a constant that is one of the type
pub of_number-is : (z : ℤ) (t : SourceType) → holds_number z t ≡ true → IsValue (of_number z) t
of_number-is z t h = record {
  value = λ u e. sym (same-holds z t u e) ∙ h;
  start = λ s u e. sym (same-holds z t u e) ∙ h;
  form = inr (record { untold = refl; integral = number-integral z t h; wide = number-wide z t h });
}
