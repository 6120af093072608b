-- What a node's typing says where the node is something.
use Rattle.std.proofs.Common.{◌≡◌, Bool, true, false, ◌&&◌, ◌||◌, not, ◌⊎◌, inl, inr, ℤ, refl, sym, subst, true≢false}
use Rattle.std.specs.Prelude.{Option, Some, None, is_some}
use Rattle.cf_base.proofs.Tests.{both}
use Rattle.cf_base.specs.declared.kind.Kind.TheVariants.{Int, ULong}
use Rattle.cf_core.specs.Types.{SourceType, void, integer, enumeration, class, pointer, reference, array, takes, gives, data_member, function_member, const, plain, same_but_const, is_void}
use Rattle.cf_core.specs.Places.{is_scalar}
use Rattle.cf_core.specs.Store.{Value, Number}
use Rattle.cf_core.specs.Run.{State}
use Rattle.cf_core.specs.Calls.{Program}
use Rattle.cf_core.specs.Typing.{Scope, Typing, no_typing, allowed, is_function, is_integral, of_value, of_place, null_if, integral_type, is_integer, scalar_type, is_condition, pointed, points_to_object}
use Rattle.cf_core.specs.Typed.{read_type, pointed_place, address_type, stored, changed_in_place}
use Rattle.cf_core_sound.specs.Proper.{shape}
use Rattle.cf_core_sound.specs.Values.{Leads, IsOf, Fits, Told, told_place, told_type, told_number, told_value, told_start}
use Rattle.cf_core_sound.proofs.Shapes.{same-shape}

-- ---- nothing is told of a node that is nothing

pub nothing-told : Told no_typing → ⊥
nothing-told (told_place t e) = absurd (cc)
nothing-told (told_type t e) = absurd (cc)
nothing-told (told_number z e) = absurd (cc)
nothing-told (told_value t e) = true≢false (sym e)
nothing-told (told_start t e) = true≢false (sym e)

pub allowed-told : (b : Bool) (x : Typing) → Told (allowed b x) → (b ≡ true) × Told x
allowed-told true x k = (refl, k)
allowed-told false x k = absurd (nothing-told k)

pub null-told : (b : Bool) (x : Typing) → Told (null_if b x) → Told x
null-told b x (told_place t e) = told_place t e
null-told b x (told_type t e) = told_type t e
null-told b x (told_number z e) = told_number z e
null-told b x (told_value t e) = told_value t e
null-told b x (told_start t e) = told_start t e

-- a fact of an option that is told
pub record There {A : Type 0} (x : Option A) (Q : A → Type 0) : Type 0 where
  pub it : A
  pub is : x ≡ Some it
  pub so : Q it

module _ (scope : Scope) where
  pub read-told : (x : Option SourceType) → Told (read_type scope x) → There x (λ t. is_scalar t ≡ true)
  read-told None k = absurd (nothing-told k)
  read-told (Some t) k = record { it = t; is = refl; so = (allowed-told (is_scalar t) (of_value (plain t)) k).0 }

  pub address-told : (x : Option SourceType) → Told (address_type scope x) → There x (λ t. Unit {0})
  address-told None k = absurd (nothing-told k)
  address-told (Some t) k = record { it = t; is = refl; so = tt }

  pub pointed-told : (x : Option SourceType) → Told (pointed_place scope (pointed x)) → There x (λ t. (u : SourceType) × (t ≡ pointer u))
  pointed-told None k = absurd (nothing-told k)
  pointed-told (Some (pointer u)) k = record { it = pointer u; is = refl; so = (u, refl) }
  pointed-told (Some void) k = absurd (nothing-told k)
  pointed-told (Some (integer i)) k = absurd (nothing-told k)
  pointed-told (Some (enumeration e)) k = absurd (nothing-told k)
  pointed-told (Some (class c)) k = absurd (nothing-told k)
  pointed-told (Some (reference t)) k = absurd (nothing-told k)
  pointed-told (Some (array t n)) k = absurd (nothing-told k)
  pointed-told (Some (takes p t)) k = absurd (nothing-told k)
  pointed-told (Some (gives t c)) k = absurd (nothing-told k)
  pointed-told (Some (data_member c t)) k = absurd (nothing-told k)
  pointed-told (Some (function_member c t)) k = absurd (nothing-told k)
  pointed-told (Some (const t)) k = absurd (nothing-told k)

  pub stored-told : (x : Option SourceType) (y : Typing) → Told (stored scope x y) → There x (λ t. (is_scalar t ≡ true) × (y.value t ≡ true))
  stored-told None y k = absurd (nothing-told k)
  stored-told (Some t) y k = record { it = t; is = refl; so = both (is_scalar t) (y.value t) (allowed-told (is_scalar t && y.value t) (of_place t) k).0 }

  pub changed-told : (x : Option SourceType) (ok : Bool) → Told (changed_in_place scope x ok) → There x (λ t. ok ≡ true)
  changed-told None ok k = absurd (nothing-told k)
  changed-told (Some t) ok k = record { it = t; is = refl; so = (allowed-told ok (of_place t) k).0 }

-- ---- what operands ask

-- a pointer to an object
pub record ToObject (t : SourceType) : Type 0 where
  pub target : SourceType
  pub is : t ≡ pointer target
  pub no_function : is_function target ≡ false
  pub no_void : is_void target ≡ false

pub object-told : (x : Typing) → points_to_object x ≡ true → There x.type ToObject
object-told x k = by_type x.type k
  where
    object_in : Option SourceType → Bool
    object_in None = false
    object_in (Some t) = not (is_function t) && not (is_void t)

    not-true : (b : Bool) → not b ≡ true → b ≡ false
    not-true true h = absurd (true≢false (sym h))
    not-true false h = refl

    by_type : (y : Option SourceType) → points_to_object (record no_typing { type = y }) ≡ true → There y ToObject
    by_type None k = absurd (true≢false (sym k))
    by_type (Some (pointer t)) k =
        let parts = both (not (is_function t)) (not (is_void t)) k in
        record { it = pointer t; is = refl; so = record { target = t; is = refl; no_function = not-true (is_function t) parts.0; no_void = not-true (is_void t) parts.1 } }
    by_type (Some void) k = absurd (true≢false (sym k))
    by_type (Some (integer i)) k = absurd (true≢false (sym k))
    by_type (Some (enumeration e)) k = absurd (true≢false (sym k))
    by_type (Some (class c)) k = absurd (true≢false (sym k))
    by_type (Some (reference t)) k = absurd (true≢false (sym k))
    by_type (Some (array t n)) k = absurd (true≢false (sym k))
    by_type (Some (takes p t)) k = absurd (true≢false (sym k))
    by_type (Some (gives t c)) k = absurd (true≢false (sym k))
    by_type (Some (data_member c t)) k = absurd (true≢false (sym k))
    by_type (Some (function_member c t)) k = absurd (true≢false (sym k))
    by_type (Some (const t)) k = absurd (true≢false (sym k))

pub or-cases : (a b : Bool) → (a || b) ≡ true → (a ≡ true) ⊎ (b ≡ true)
or-cases true b k = inl refl
or-cases false b k = inr k

four-cases : (a b c d : Bool) → (a || b || c || d) ≡ true → ((a ≡ true) ⊎ (b ≡ true)) ⊎ ((c ≡ true) ⊎ (d ≡ true))
four-cases true b c d k = inl (inl refl)
four-cases false true c d k = inl (inr refl)
four-cases false false true d k = inr (inl refl)
four-cases false false false d k = inr (inr k)

pub integral-told : (x : Option SourceType) → integral_type x ≡ true → There x (λ t. is_integral t ≡ true)
integral-told None k = absurd (true≢false (sym k))
integral-told (Some t) k = record { it = t; is = refl; so = k }

pub scalar-told : (x : Option SourceType) → scalar_type x ≡ true → There x (λ t. is_scalar t ≡ true)
scalar-told None k = absurd (true≢false (sym k))
scalar-told (Some t) k = record { it = t; is = refl; so = k }

some-told : (x : Option ℤ) → is_some x ≡ true → There x (λ z. Unit {0})
some-told None k = absurd (true≢false (sym k))
some-told (Some z) k = record { it = z; is = refl; so = tt }

pub integer-told : (x : Typing) → is_integer x ≡ true → Told x
integer-told x k = by_case (four-cases (integral_type x.type) (is_some x.number) (x.value (integer Int)) (x.value (integer ULong)) k)
  where
    by_case : ((integral_type x.type ≡ true) ⊎ (is_some x.number ≡ true)) ⊎ ((x.value (integer Int) ≡ true) ⊎ (x.value (integer ULong) ≡ true)) → Told x
    by_case (inl (inl e)) = let there = integral-told x.type e in told_type there.it there.is
    by_case (inl (inr e)) = let there = some-told x.number e in told_number there.it there.is
    by_case (inr (inl e)) = told_value (integer Int) e
    by_case (inr (inr e)) = told_value (integer ULong) e

pub condition-told : (x : Typing) → is_condition x ≡ true → Told x
condition-told x k = by_case (or-cases (is_integer x) (scalar_type x.type) k)
  where
    by_case : (is_integer x ≡ true) ⊎ (scalar_type x.type ≡ true) → Told x
    by_case (inl e) = integer-told x e
    by_case (inr e) = let there = scalar-told x.type e in told_type there.it there.is

-- ---- values as their typings say

of-some : {A : Type 0} (a b : A) → Some a ≡ Some b → a ≡ b
of-some a b e = cc

none-is : {A : Type 0} (a : A) → None ≡ Some a → ⊥
none-is a e = absurd (cc)

module _ (P : Program) (s : State) where
  pub leads-pointer : (t : SourceType) (v : Value) → Leads P s t v → IsOf P s (pointer t) v
  leads-pointer t v k = inr k

  pub fits-value : (t : SourceType) (v : Value) → IsOf P s (shape t) v → Fits P s (of_value t) v
  fits-value t v k = record {
    place = λ u e. absurd (none-is u e);
    type = λ u e. subst (λ a. IsOf P s (shape a) v) (of-some t u e) k;
    number = λ z e. absurd (none-is z e);
    value = λ u e. subst (λ a. IsOf P s a v) (same-shape t u e) k;
    start = λ u e. subst (λ a. IsOf P s a v) (same-shape t u (both (is_scalar u) (same_but_const t u) e).1) k;
  }

  pub fits-null : (b : Bool) (x : Typing) (v : Value) → Fits P s x v → Fits P s (null_if b x) v
  fits-null b x v k = record { place = k.place; type = k.type; number = k.number; value = k.value; start = k.start }

  pub fits-allowed : (b : Bool) (x : Typing) (v : Value) → b ≡ true → Fits P s x v → Fits P s (allowed b x) v
  fits-allowed b x v e k = subst (λ c. Fits P s (allowed c x) v) (sym e) k

  pub fits-place : (t : SourceType) (v : Value) → Leads P s (shape t) v → Fits P s (of_place t) v
  fits-place t v k = by_test (is_function t)
    where
      as_place : (x : Typing) → ((u : SourceType) → x.place ≡ Some u → t ≡ u) → Fits P s (record x { place = None }) v → Fits P s x v
      as_place x same f = record {
        place = λ u e. subst (λ a. Leads P s (shape a) v) (same u e) k;
        type = f.type;
        number = f.number;
        value = f.value;
        start = f.start;
      }

      by_test : (b : Bool) → Fits P s (elim b as (λ c. Typing) [ true ↦ record (of_value (pointer t)) { place = Some t } | false ↦ record no_typing { place = Some t } ]) v
      by_test true = as_place (record (of_value (pointer t)) { place = Some t }) (λ u e. of-some t u e) (fits-value (pointer t) v (leads-pointer (shape t) v k))
      by_test false = record {
        place = λ u e. subst (λ a. Leads P s (shape a) v) (of-some t u e) k;
        type = λ u e. absurd (none-is u e);
        number = λ z e. absurd (none-is z e);
        value = λ u e. absurd (true≢false (sym e));
        start = λ u e. absurd (true≢false (sym e));
      }

  -- an integer
  pub integral-number : (t : SourceType) (v : Value) → is_integral t ≡ true → IsOf P s (shape t) v → (z : ℤ) × (v ≡ Number z)
  integral-number (integer i) v e k = (k.0, k.1)
  integral-number (enumeration n) v e k = (k.0, k.1)
  integral-number void v e k = absurd (true≢false (sym e))
  integral-number (class c) v e k = absurd (true≢false (sym e))
  integral-number (pointer t) v e k = absurd (true≢false (sym e))
  integral-number (reference t) v e k = absurd (true≢false (sym e))
  integral-number (array t n) v e k = absurd (true≢false (sym e))
  integral-number (takes p t) v e k = absurd (true≢false (sym e))
  integral-number (gives t c) v e k = absurd (true≢false (sym e))
  integral-number (data_member c t) v e k = absurd (true≢false (sym e))
  integral-number (function_member c t) v e k = absurd (true≢false (sym e))
  integral-number (const t) v e k = absurd (true≢false (sym e))

  pub integer-number : (x : Typing) (v : Value) → is_integer x ≡ true → Fits P s x v → (z : ℤ) × (v ≡ Number z)
  integer-number x v e k = by_case (four-cases (integral_type x.type) (is_some x.number) (x.value (integer Int)) (x.value (integer ULong)) e)
    where
      by_case : ((integral_type x.type ≡ true) ⊎ (is_some x.number ≡ true)) ⊎ ((x.value (integer Int) ≡ true) ⊎ (x.value (integer ULong) ≡ true)) → (z : ℤ) × (v ≡ Number z)
      by_case (inl (inl e)) = let there = integral-told x.type e in integral-number there.it v there.so (k.type there.it there.is)
      by_case (inl (inr e)) = let there = some-told x.number e in (there.it, k.number there.it there.is)
      by_case (inr (inl e)) = let i = k.value (integer Int) e in (i.0, i.1)
      by_case (inr (inr e)) = let i = k.value (integer ULong) e in (i.0, i.1)
