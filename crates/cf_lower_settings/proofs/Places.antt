-- Places that are known so many bytes behind the start of an object: arrays decay, and pointers move.
use Rattle.std.proofs.Common.{◌≡◌, ℕ, zero, suc, ◌+◌, ◌-◌, ◌*◌, ◌≤◌, ◌<◌, nat_le, nat_lt, Bool, true, false, List, [], ◌∷◌, ℤ, pos, negsuc, Option, Some, None, refl, ap, sym, ◌∙◌, arith}
use Rattle.std.proofs.Math.Nat.{add-mul}
use Rattle.std.proofs.lemmas.Bool.{true≢false}
use Rattle.std.proofs.lemmas.Bool.Decides.{nat_tests}
use Rattle.cf_base.proofs.Tests.{all_of}
use Rattle.cf_core.specs.Types.{SourceType, const, is_array, plain, element, without_const}
use Rattle.cf_core.specs.Classes.{Class}
use Rattle.cf_core.specs.Core.{item, past, field, within}
use Rattle.cf_core.specs.Places.{Route, type_at, bound, is_inside, is_reference}
use Rattle.cf_core.specs.Pointers.{element_of, route_of, bound_of, further}
use Rattle.cf_core.specs.Size.{size}
use Rattle.cf_lower_layout.specs.Layout.{LaidOut, const_once, has_item, ends_item, offset, leads, ends, points}
use Rattle.cf_lower_layout.proofs.Elements.{moved-points, moved-offset, moved-type, element-offset, inside-leads, points-item, or-left, no-part}
use Rattle.cf_lower_layout.proofs.Laid.{laid-at, has-first, element-without}
use Rattle.cf_lower_layout.proofs.Order.{leads-inside}
use Rattle.cf_lower_relate.proofs.Moves.{some-same}
use Rattle.cf_lower_program.specs.Alike.{left_behind}

-- ---- what const does not change

pub reference-without : (t : SourceType) → is_reference (without_const t) ≡ is_reference t
reference-without (const t) = reference-without t
reference-without t = refl

pub bound-without : (t : SourceType) → bound (without_const t) ≡ bound t
bound-without (const t) = bound-without t
bound-without t = refl

-- ---- numbers

-- the byte that is so many elements further
abbrev pub byte_of : ℕ → ℕ → ℤ → ℕ
byte_of o bytes (pos k) = o + k * bytes
byte_of o bytes (negsuc k) = o - (k + 1) * bytes

pub bytes-moved : (j i n : ℕ) (z : ℤ) (a : ℕ) → further j z ≡ Some i → a + i * n ≡ byte_of (a + j * n) n z
bytes-moved j i n (pos k) a e =
    let is : j + k ≡ i = some-same e in
    let sum = add-mul j k n in
    ap (λ m. a + m * n) (sym is) ∙ (let h : a + (j + k) * n ≡ a + j * n + k * n = omega (arith, sum) in h)
bytes-moved j i n (negsuc k) a e = by_test (nat_le (suc k) j) refl e
  where
    by_test : (b : Bool) → nat_le (suc k) j ≡ b → (elim b as (λ c. Option ℕ) [ true ↦ Some (j - suc k) | false ↦ None ]) ≡ Some i → a + i * n ≡ a + j * n - (k + 1) * n
    by_test true t e =
        let is : j - suc k ≡ i = some-same e in
        let whole : j ≡ i + (k + 1) = grind (arith, nat_tests, t, is) in
        let sum = add-mul i (k + 1) n in
        (let h : a + i * n ≡ a + (i + (k + 1)) * n - (k + 1) * n = omega (arith, sum) in h) ∙ ap (λ m. a + m * n - (k + 1) * n) (sym whole)
    by_test false t e = absurd (cc)

pub left-moved : (j i n k : ℕ) (z : ℤ) → further j z ≡ Some i → j + n ≤ k → i ≤ k → i + left_behind n z ≤ k
left-moved j i n k (pos m) e le lt = let is : j + m ≡ i = some-same e in omega (arith, is, le, lt)
left-moved j i n k (negsuc m) e le lt = by_test (nat_le (suc m) j) refl e
  where
    by_test : (b : Bool) → nat_le (suc m) j ≡ b → (elim b as (λ c. Option ℕ) [ true ↦ Some (j - suc m) | false ↦ None ]) ≡ Some i → i + n ≤ k
    by_test true t e = let is : j - suc m ≡ i = some-same e in omega (arith, is, le)
    by_test false t e = absurd (cc)

-- ---- elements

module _ (cs : List Class) (t : SourceType) where
  -- a place with elements left is a part, and no end
  pub left-leads : (π : Route) (n : ℕ) → points cs t π ≡ true → (element_of π).index + n ≤ bound_of cs t (element_of π) → 0 < n → leads cs t π ≡ true
  left-leads [] n h le some = refl
  left-leads (item i ∷ π) n h le some =
      let l = (points-item (leads cs t π) (has_item (plain (type_at cs t π)) i) (ends_item (plain (type_at cs t π)) i) h).0 in
      inside-leads cs t (item i ∷ π) h
      (all_of (nat_lt i (bound (type_at cs t π))) (is_inside cs t π) (let b : nat_lt i (bound (type_at cs t π)) ≡ true = grind (arith, nat_tests, le, some) in b) (leads-inside cs t π l))
  left-leads (past ∷ []) n h le some = absurd (let no : ⊥ = omega (arith, le, some) in no)
  left-leads (past ∷ item i ∷ π) n h le some = absurd (true≢false (sym (points-item (leads cs t (item i ∷ π)) false false h).1))
  left-leads (past ∷ past ∷ π) n h le some = absurd (true≢false (sym (points-item (leads cs t (past ∷ π)) false false h).1))
  left-leads (past ∷ field i ∷ π) n h le some = absurd (let no : ⊥ = omega (arith, le, some) in no)
  left-leads (past ∷ within s ∷ π) n h le some = absurd (let no : ⊥ = omega (arith, le, some) in no)
  left-leads (field i ∷ π) n h le some = absurd (no-part (leads cs t π) h)
  left-leads (within s ∷ π) n h le some = absurd (no-part (leads cs t π) h)

  -- the element that a moved pointer points to
  pub record Element (π ρ : Route) (i : ℕ) : Type 0 where
    pub index : (element_of ρ).index ≡ i
    pub bound : bound_of cs t (element_of ρ) ≡ bound_of cs t (element_of π)

  pub moved-element : (π : Route) → points cs t π ≡ true → (i : ℕ) → i ≤ bound_of cs t (element_of π) → Element π (route_of (element_of π) i) i
  moved-element [] h zero le = record { index = refl; bound = refl }
  moved-element [] h (suc i) le = record { index = omega (arith, le); bound = refl }
  moved-element (item j ∷ π) h i le = record { index = refl; bound = refl }
  moved-element (past ∷ []) h zero le = record { index = refl; bound = refl }
  moved-element (past ∷ []) h (suc i) le = record { index = omega (arith, le); bound = refl }
  moved-element (past ∷ item i ∷ π) h j le = absurd (true≢false (sym (points-item (leads cs t (item i ∷ π)) false false h).1))
  moved-element (past ∷ past ∷ π) h j le = absurd (true≢false (sym (points-item (leads cs t (past ∷ π)) false false h).1))
  moved-element (past ∷ field i ∷ π) h zero le = record { index = refl; bound = refl }
  moved-element (past ∷ field i ∷ π) h (suc j) le = record { index = omega (arith, le); bound = refl }
  moved-element (past ∷ within s ∷ π) h zero le = record { index = refl; bound = refl }
  moved-element (past ∷ within s ∷ π) h (suc j) le = record { index = omega (arith, le); bound = refl }
  moved-element (field j ∷ π) h i le = absurd (no-part (leads cs t π) h)
  moved-element (within s ∷ π) h i le = absurd (no-part (leads cs t π) h)

-- a pointer is moved: its byte, and how many elements are left
pub record MovedTo (cs : List Class) (t : SourceType) (π : Route) (n : ℕ) (z : ℤ) (ρ : Route) : Type 0 where
  pub points : points cs t ρ ≡ true
  pub offset : offset cs t ρ ≡ byte_of (offset cs t π) (size cs (type_at cs t π)) z
  pub type : type_at cs t ρ ≡ type_at cs t π
  pub left : (element_of ρ).index + left_behind n z ≤ bound_of cs t (element_of ρ)

pub moved-to : (cs : List Class) (t : SourceType) (π : Route) (n i : ℕ) (z : ℤ) → points cs t π ≡ true → (element_of π).index + n ≤ bound_of cs t (element_of π)
    → further (element_of π).index z ≡ Some i → nat_le i (bound_of cs t (element_of π)) ≡ true → MovedTo cs t π n z (route_of (element_of π) i)
moved-to cs t π n i z h left e le =
    let lt : i ≤ bound_of cs t (element_of π) = grind (arith, nat_tests, le) in
    let x = moved-element cs t π h i lt in
    let a = offset cs t (element_of π).array in
    let m = size cs (type_at cs t π) in
    record {
      points = moved-points cs t π h i le;
      offset = moved-offset cs t π i le ∙ bytes-moved (element_of π).index i m z a e ∙ ap (λ o. byte_of o m z) (sym (element-offset cs t π));
      type = moved-type cs t π i;
      left =
          let inner = left-moved (element_of π).index i n (bound_of cs t (element_of π)) z e left lt in
          let index = x.index in
          let bound = x.bound in
          omega (arith, inner, index, bound);
    }

-- ---- an array's first element

pub record First (cs : List Class) (t u : SourceType) (π : Route) : Type 0 where
  pub points : points cs t (item 0 ∷ π) ≡ true
  pub offset : offset cs t (item 0 ∷ π) ≡ offset cs t π
  pub type : without_const (type_at cs t (item 0 ∷ π)) ≡ without_const (element (plain u))
  pub left : (element_of (item 0 ∷ π)).index + bound u ≤ bound_of cs t (element_of (item 0 ∷ π))

pub first-at : (cs : List Class) (t u : SourceType) (π : Route) → LaidOut cs t → points cs t π ≡ true → is_inside cs t π ≡ true → is_array (type_at cs t π) ≡ true
    → without_const (type_at cs t π) ≡ without_const u → const_once u ≡ true → First cs t u π
first-at cs t u π laid h inside is same once =
    let l = laid-at cs t laid π h in
    let leads-there = inside-leads cs t π h inside in
    let whole = type_at cs t π in
    record {
      points = or-left (leads cs t (item 0 ∷ π)) (ends cs t (item 0 ∷ π)) (all_of (leads cs t π) (has_item (plain whole) 0) leads-there (has-first whole is l.some l.once));
      offset = omega arith;
      type = element-without whole l.once ∙ ap element same ∙ sym (element-without u once);
      left =
          let b : bound u ≡ bound whole = sym (bound-without u) ∙ ap bound (sym same) ∙ bound-without whole in
          omega (arith, b);
    }
