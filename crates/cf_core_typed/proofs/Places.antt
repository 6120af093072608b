-- Places and the values read from them (3.7, 4.1, 4.6, 5.2.1, 5.3).
use Rattle.std.proofs.Common.{◌≡◌, ℕ, Bool, true, false, ◌&&◌, ◌⊎◌, inl, inr, if◌then◌else◌, Some, None, refl, sym, ap, subst, ◌∙◌, true≢false}
use Rattle.cf_core.specs.Types.{SourceType, void, integer, enumeration, class, pointer, reference, array, takes, gives, data_member, function_member, const, plain, without_const}
use Rattle.cf_core.specs.Places.{is_scalar}
use Rattle.cf_core.specs.Typing.{Scope, Typing, no_typing, is_integral, is_function, of_value, of_place, is_integer, pointed, points_to_object}
use Rattle.cf_core.specs.Typed.{read_type, address_type, pointed_place, decayed_type, indexed_type}
use Rattle.cf_core_typed.specs.Same.{is_normal}
use Rattle.cf_core_typed.specs.Meets.{IsPlace, Typed, Untyped, IsValue, Points}
use Rattle.cf_core_typed.proofs.Same.{and-both, same-scalar, array-form, integral-bare, same-function}
use Rattle.cf_core_typed.proofs.Values.{allow, place-same, value-same, of_value-is, of_plain-is, of_place-is}

-- a value of an integer type points to nothing
points_nowhere : (t : SourceType) → is_integral t ≡ true → pointed (Some t) ≡ None
points_nowhere (integer k) h = refl
points_nowhere (enumeration e) h = refl
points_nowhere void h = absurd (true≢false (sym h))
points_nowhere (class c) h = absurd (true≢false (sym h))
points_nowhere (pointer t) h = absurd (true≢false (sym h))
points_nowhere (reference t) h = absurd (true≢false (sym h))
points_nowhere (array t n) h = absurd (true≢false (sym h))
points_nowhere (takes p t) h = absurd (true≢false (sym h))
points_nowhere (gives t c) h = absurd (true≢false (sym h))
points_nowhere (data_member c t) h = absurd (true≢false (sym h))
points_nowhere (function_member c t) h = absurd (true≢false (sym h))
points_nowhere (const t) h = absurd (true≢false (sym h))

no_object : (x : Typing) → pointed x.type ≡ None → points_to_object x ≡ false
no_object x h = rw h refl

pub integer-no-pointer : (x : Typing) (t : SourceType) → is_integral (without_const t) ≡ true → IsValue x t → points_to_object x ≡ false
integer-no-pointer x t h v = by v.form
  where
    by : Typed x t ⊎ Untyped x t → points_to_object x ≡ false
    by (inl p) = no_object x (ap pointed p.here ∙ points_nowhere p.type (sym (integral-bare p.type p.bare) ∙ ap is_integral p.same ∙ h))
    by (inr p) = no_object x (ap pointed p.untold)

-- the place of a function is decayed to a pointer to it
decayed-function : (scope : Scope) (u : SourceType) → is_function u ≡ true → decayed_type scope (Some u) ≡ of_value (pointer u)
decayed-function scope (takes p t) h = refl
decayed-function scope (gives t c) h = refl
decayed-function scope void h = absurd (true≢false (sym h))
decayed-function scope (integer k) h = absurd (true≢false (sym h))
decayed-function scope (enumeration e) h = absurd (true≢false (sym h))
decayed-function scope (class c) h = absurd (true≢false (sym h))
decayed-function scope (pointer t) h = absurd (true≢false (sym h))
decayed-function scope (reference t) h = absurd (true≢false (sym h))
decayed-function scope (array t n) h = absurd (true≢false (sym h))
decayed-function scope (data_member c t) h = absurd (true≢false (sym h))
decayed-function scope (function_member c t) h = absurd (true≢false (sym h))
decayed-function scope (const t) h = absurd (true≢false (sym h))

choose : (P : Typing → Type 0) (b : Bool) (x y : Typing) → b ≡ true → P x → P (if b then x else y)
choose P b x y h p = subst (λ c. P (if c then x else y)) (sym h) p

refuse : (P : Typing → Type 0) (b : Bool) (x y : Typing) → b ≡ false → P y → P (if b then x else y)
refuse P b x y h p = subst (λ c. P (if c then x else y)) (sym h) p

module _ (scope : Scope) where
  pub read-is : (x : Typing) (t : SourceType) → is_scalar t ≡ true → IsPlace x t → IsValue (read_type scope x.place) t
  read-is x t s p =
      subst (λ o. IsValue (read_type scope o) t) (sym p.here)
      (allow (λ y. IsValue y t) (is_scalar p.type) (of_value (plain p.type)) (same-scalar p.type t p.same ∙ s)
      (value-same (of_value (plain p.type)) p.type t p.same (of_plain-is p.type p.normal)))

  pub address-is : (x : Typing) (t : SourceType) → IsPlace x t → IsValue (address_type scope x.place) (pointer t)
  address-is x t p =
      subst (λ o. IsValue (address_type scope o) (pointer t)) (sym p.here)
      (value-same (of_value (pointer p.type)) (pointer p.type) (pointer t) (ap pointer p.same) (of_value-is (pointer p.type) refl p.normal))

  pub place_at-is : (x : Typing) (t : SourceType) → Points x t → IsPlace (pointed_place scope (pointed x.type)) t
  place_at-is x t p =
      subst (λ o. IsPlace (pointed_place scope (pointed o)) t) (sym p.here) (place-same (of_place p.type) p.type t p.same (of_place-is p.type p.normal))

  pub decay-array-is : (x : Typing) (t : SourceType) (n : ℕ) → IsPlace x (array t n) → IsValue (decayed_type scope x.place) (pointer t)
  decay-array-is x t n p =
      let f = array-form p.type t n p.normal p.same in
      subst (λ o. IsValue (decayed_type scope o) (pointer t)) (sym (p.here ∙ ap Some f.1))
      (value-same (of_value (pointer f.0)) (pointer f.0) (pointer t) (ap pointer f.2) (of_value-is (pointer f.0) refl (subst (λ u. is_normal u ≡ true) f.1 p.normal)))

  pub decay-function-is : (x : Typing) (t : SourceType) → is_normal t ≡ true → is_function t ≡ true → IsPlace x t → IsValue (decayed_type scope x.place) (pointer t)
  decay-function-is x t n f p =
      subst (λ o. IsValue (decayed_type scope o) (pointer t)) (sym p.here)
      (subst (λ y. IsValue y (pointer t)) (sym (decayed-function scope p.type (same-function p.type t p.same p.normal n ∙ f)))
      (value-same (of_value (pointer p.type)) (pointer p.type) (pointer t) (ap pointer p.same) (of_value-is (pointer p.type) refl p.normal)))

  -- a pointer to an object and an integer, in either order
  pub index-is : (x y : Typing) (t : SourceType) → points_to_object x ≡ true → Points x t → is_integer y ≡ true → IsPlace (indexed_type scope x y) t
  index-is x y t o p i =
      choose (λ z. IsPlace z t) (points_to_object x && is_integer y) (pointed_place scope (pointed x.type))
      (if is_integer x && points_to_object y then pointed_place scope (pointed y.type) else no_typing)
      (and-both (points_to_object x) (is_integer y) o i) (place_at-is x t p)

  pub index-right-is : (x y : Typing) (t : SourceType) → points_to_object x ≡ false → is_integer x ≡ true → points_to_object y ≡ true → Points y t → IsPlace (indexed_type scope x y) t
  index-right-is x y t n i o p =
      refuse (λ z. IsPlace z t) (points_to_object x && is_integer y) (pointed_place scope (pointed x.type))
      (if is_integer x && points_to_object y then pointed_place scope (pointed y.type) else no_typing)
      (ap (λ b. b && is_integer y) n)
      (choose (λ z. IsPlace z t) (is_integer x && points_to_object y) (pointed_place scope (pointed y.type)) no_typing (and-both (is_integer x) (points_to_object y) i o) (place_at-is y t p))
