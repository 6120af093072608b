-- Nodes of two parts, choices, conversions and names: what they give is as their typings say.
use Rattle.std.proofs.Common.{◌≡◌, Bool, true, false, ◌&&◌, if◌then◌else◌, ℤ, ◌⊎◌, inl, inr, refl, sym, ap, ◌∙◌, subst, true≢false}
use Rattle.std.specs.Prelude.{Option, Some, None}
use Rattle.cf_base.proofs.Tests.{both}
use Rattle.cf_core.specs.Types.{SourceType, void, integer, enumeration, class, pointer, reference, array, takes, gives as gives_type, data_member, function_member, const, same_but_const}
use Rattle.cf_core.specs.Places.{is_scalar}
use Rattle.cf_core.specs.Store.{Value, Number}
use Rattle.cf_core.specs.Run.{State}
use Rattle.cf_core.specs.Calls.{Program}
use Rattle.cf_core.specs.Typing.{Typing, of_number, both as both_types, or_else, either, holds_number}
use Rattle.cf_core_sound.specs.Proper.{shape}
use Rattle.cf_core_sound.specs.Values.{Leads, IsOf, Fits, Told, told_place, told_type, told_number, told_value, told_start}
use Rattle.cf_core_sound.proofs.Shapes.{same-shape}
use Rattle.cf_core_sound.proofs.Typings.{There}

-- ---- constants

no-test : false ≡ true → ⊥
no-test e = true≢false (sym e)

of-some : {A : Type 0} (a b : A) → Some a ≡ Some b → a ≡ b
of-some a b e = cc

none-is : {A : Type 0} (a : A) → None ≡ Some a → ⊥
none-is a e = absurd (cc)

holds-of : (P : Program) (s : State) (z : ℤ) (t : SourceType) → holds_number z t ≡ true → IsOf P s (shape t) (Number z)
holds-of P s z (integer k) e = (z, refl, e)
holds-of P s z (enumeration n) e = (z, refl, e)
holds-of P s z (const t) e = holds-of P s z t e
holds-of P s z void e = absurd (no-test e)
holds-of P s z (class c) e = absurd (no-test e)
holds-of P s z (pointer t) e = absurd (no-test e)
holds-of P s z (reference t) e = absurd (no-test e)
holds-of P s z (array t n) e = absurd (no-test e)
holds-of P s z (takes p t) e = absurd (no-test e)
holds-of P s z (gives_type t c) e = absurd (no-test e)
holds-of P s z (data_member c t) e = absurd (no-test e)
holds-of P s z (function_member c t) e = absurd (no-test e)

pub fits-number : (P : Program) (s : State) (z : ℤ) → Fits P s (of_number z) (Number z)
fits-number P s z = record {
  place = λ t e. absurd (none-is t e);
  type = λ t e. absurd (none-is t e);
  number = λ y e. ap Number (of-some z y e);
  value = λ t e. holds-of P s z t e;
  start = λ t e. holds-of P s z t e;
}

-- ---- a choice of two

agreed : Option SourceType → Typing → Option SourceType
agreed None z = None
agreed (Some t) z = if z.value t then Some t else None

module _ (P : Program) (s : State) where
  three : (a b c : Bool) → (a && b && c) ≡ true → (a ≡ true) × (b ≡ true) × (c ≡ true)
  three true true c e = (refl, refl, e)
  three true false c e = absurd (no-test e)
  three false b c e = absurd (no-test e)

  -- what two types have in common
  both-left : (x y : Option SourceType) (Q : SourceType → Type 0) → ((t : SourceType) → x ≡ Some t → Q (shape t)) → (t : SourceType) → both_types x y ≡ Some t → Q (shape t)
  both-left None y Q h t e = absurd (none-is t e)
  both-left (Some u) None Q h t e = absurd (none-is t e)
  both-left (Some u) (Some v) Q h t e = by_test (same_but_const u v) e
    where
      by_test : (b : Bool) → (if b then Some u else None) ≡ Some t → Q (shape t)
      by_test true e = h t e
      by_test false e = absurd (none-is t e)

  both-right : (x y : Option SourceType) (Q : SourceType → Type 0) → ((t : SourceType) → y ≡ Some t → Q (shape t)) → (t : SourceType) → both_types x y ≡ Some t → Q (shape t)
  both-right None y Q h t e = absurd (none-is t e)
  both-right (Some u) None Q h t e = absurd (none-is t e)
  both-right (Some u) (Some v) Q h t e = by_test (same_but_const u v) refl e
    where
      by_test : (b : Bool) → same_but_const u v ≡ b → (if b then Some u else None) ≡ Some t → Q (shape t)
      by_test true same e = subst Q (sym (same-shape u v same) ∙ ap shape (of-some u t e)) (h v refl)
      by_test false same e = absurd (none-is t e)

  agreed-first : (x : Option SourceType) (z : Typing) (Q : SourceType → Type 0) → ((t : SourceType) → x ≡ Some t → Q (shape t)) → (t : SourceType) → agreed x z ≡ Some t → Q (shape t)
  unfolding agreed
  agreed-first None z Q h t e = absurd (none-is t e)
  agreed-first (Some u) z Q h t e = by_test (z.value u) e
    where
      by_test : (b : Bool) → (if b then Some u else None) ≡ Some t → Q (shape t)
      by_test true e = h t e
      by_test false e = absurd (none-is t e)

  agreed-second : (x : Option SourceType) (z : Typing) (Q : SourceType → Type 0) → ((t : SourceType) → z.value t ≡ true → Q (shape t)) → (t : SourceType) → agreed x z ≡ Some t → Q (shape t)
  unfolding agreed
  agreed-second None z Q h t e = absurd (none-is t e)
  agreed-second (Some u) z Q h t e = by_test (z.value u) refl e
    where
      by_test : (b : Bool) → z.value u ≡ b → (if b then Some u else None) ≡ Some t → Q (shape t)
      by_test true same e = subst (λ a. Q (shape a)) (of-some u t e) (h u same)
      by_test false same e = absurd (none-is t e)

  or-of : (x y : Option SourceType) (Q : SourceType → Type 0) → ((t : SourceType) → x ≡ Some t → Q (shape t)) → ((t : SourceType) → y ≡ Some t → Q (shape t))
      → (t : SourceType) → or_else x y ≡ Some t → Q (shape t)
  or-of None y Q h k t e = k t e
  or-of (Some u) y Q h k t e = h t e

  pub fits-first : (x y : Typing) (v : Value) → Fits P s x v → Fits P s (either x y) v
  unfolding agreed
  fits-first x y v f = record {
    place = both-left x.place y.place (λ a. Leads P s a v) f.place;
    type = or-of (both_types x.type y.type) (or_else (agreed x.type y) (agreed y.type x)) (λ a. IsOf P s a v) (both-left x.type y.type (λ a. IsOf P s a v) f.type)
        (or-of (agreed x.type y) (agreed y.type x) (λ a. IsOf P s a v) (agreed-first x.type y (λ a. IsOf P s a v) f.type) (agreed-second y.type x (λ a. IsOf P s a v) f.value));
    number = λ z e. absurd (none-is z e);
    value = λ t e. f.value t (both (x.value t) (y.value t) e).0;
    start = λ t e. f.value t (three (is_scalar t) (x.value t) (y.value t) e).1;
  }

  pub fits-second : (x y : Typing) (v : Value) → Fits P s y v → Fits P s (either x y) v
  unfolding agreed
  fits-second x y v f = record {
    place = both-right x.place y.place (λ a. Leads P s a v) f.place;
    type = or-of (both_types x.type y.type) (or_else (agreed x.type y) (agreed y.type x)) (λ a. IsOf P s a v) (both-right x.type y.type (λ a. IsOf P s a v) f.type)
        (or-of (agreed x.type y) (agreed y.type x) (λ a. IsOf P s a v) (agreed-second x.type y (λ a. IsOf P s a v) f.value) (agreed-first y.type x (λ a. IsOf P s a v) f.type));
    number = λ z e. absurd (none-is z e);
    value = λ t e. f.value t (both (x.value t) (y.value t) e).1;
    start = λ t e. f.value t (three (is_scalar t) (x.value t) (y.value t) e).2;
  }

-- both are told where the choice is
told-option : (x y : Option SourceType) (t : SourceType) → both_types x y ≡ Some t → (There x (λ u. Unit {0})) × (There y (λ u. Unit {0}))
told-option None y t e = absurd (none-is t e)
told-option (Some u) None t e = absurd (none-is t e)
told-option (Some u) (Some v) t e = (record { it = u; is = refl; so = tt }, record { it = v; is = refl; so = tt })

told-agreed : (x : Option SourceType) (z : Typing) (t : SourceType) → agreed x z ≡ Some t → (There x (λ u. z.value u ≡ true))
unfolding agreed
told-agreed None z t e = absurd (none-is t e)
told-agreed (Some u) z t e = by_test (z.value u) refl e
  where
    by_test : (b : Bool) → z.value u ≡ b → (if b then Some u else None) ≡ Some t → There (Some u) (λ u. z.value u ≡ true)
    by_test true same e = record { it = u; is = refl; so = same }
    by_test false same e = absurd (none-is t e)

or-told : (x y : Option SourceType) (t : SourceType) → or_else x y ≡ Some t → (x ≡ Some t) ⊎ (y ≡ Some t)
or-told None y t e = inr e
or-told (Some u) y t e = inl e

pub either-told : (x y : Typing) → Told (either x y) → Told x × Told y
unfolding agreed
either-told x y (told_place t e) =
    let parts = told-option x.place y.place t e in
    let a = parts.0 in let b = parts.1 in
    (told_place a.it a.is, told_place b.it b.is)
either-told x y (told_type t e) = by_or (or-told (both_types x.type y.type) (or_else (agreed x.type y) (agreed y.type x)) t e)
  where
    by_agreed : (agreed x.type y ≡ Some t) ⊎ (agreed y.type x ≡ Some t) → Told x × Told y
    by_agreed (inl e) = let a = told-agreed x.type y t e in (told_type a.it a.is, told_value a.it a.so)
    by_agreed (inr e) = let a = told-agreed y.type x t e in (told_value a.it a.so, told_type a.it a.is)

    by_or : (both_types x.type y.type ≡ Some t) ⊎ (or_else (agreed x.type y) (agreed y.type x) ≡ Some t) → Told x × Told y
    by_or (inl e) =
        let parts = told-option x.type y.type t e in
        let a = parts.0 in let b = parts.1 in
        (told_type a.it a.is, told_type b.it b.is)
    by_or (inr e) = by_agreed (or-told (agreed x.type y) (agreed y.type x) t e)
either-told x y (told_number z e) = absurd (none-is z e)
either-told x y (told_value t e) = let parts = both (x.value t) (y.value t) e in (told_value t parts.0, told_value t parts.1)
either-told x y (told_start t e) = by_parts (is_scalar t) (x.value t) (y.value t) refl refl e
  where
    by_parts : (a b c : Bool) → x.value t ≡ b → y.value t ≡ c → (a && b && c) ≡ true → Told x × Told y
    by_parts true true true f g e = (told_value t f, told_value t g)
    by_parts true true false f g e = absurd (no-test e)
    by_parts true false c f g e = absurd (no-test e)
    by_parts false b c f g e = absurd (no-test e)
