-- Objects of a file without classes are within the limit on sizes.
use Rattle.std.proofs.Common.{◌≡◌, ℕ, ◌<◌, ◌≤◌, ◌^◌, Bool, true, false, ◌&&◌, List, [], length, ap, refl, sym, subst, arith}
use Rattle.std.specs.Prelude.{nat_le}
use Rattle.std.proofs.lemmas.Bool.Decides.{nat_tests}
use Rattle.cf_core.specs.Classes.{Class}
use Rattle.cf_core.specs.FromClasses.{classes_in}
use Rattle.cf_core.specs.FromTypes.{type_of}
use Rattle.cf_core.specs.FromUnit.{Unit, IsValid, tables_of}
use Rattle.cf_core.specs.Size.{size}
use Rattle.cf_core.specs.Types.{SourceType, void}
use Rattle.cf_lower_layout.specs.Layout.{has_bytes, const_once}
use Rattle.cf_lower_program.specs.Types.{is_laid}
use Rattle.cf_lower_types.proofs.Entries.{missing}

small-test : (n : ℕ) → n ≤ 2 ^ 22 → nat_le n (2 ^ 22) ≡ true
small-test n h = grind (arith, nat_tests, h)

module _ (unit : Unit) (valid : IsValid unit) (none : unit.classes.defined ≡ []) where
  known-small : (t : ℕ) → t < length unit.types.types → size [] (type_of (tables_of unit) t) ≤ 2 ^ 22
  known-small t lt = subst (λ (cs : List Class). size cs (type_of (tables_of unit) t) ≤ 2 ^ 22) (ap (classes_in (tables_of unit)) none) (valid.limits.sizes t lt)

  unknown-small : (t : ℕ) → length unit.types.types ≤ t → size [] (type_of (tables_of unit) t) ≤ 2 ^ 22
  unknown-small t le = subst (λ (u : SourceType). size [] u ≤ 2 ^ 22) (sym (missing (tables_of unit) t le)) (let one : size [] void ≡ 1 = refl in omega (arith, one))

  pub all_small : (t : ℕ) → size [] (type_of (tables_of unit) t) ≤ 2 ^ 22
  all_small t = by (nat_le (length unit.types.types) t) refl
    where
      by : (b : Bool) → nat_le (length unit.types.types) t ≡ b → size [] (type_of (tables_of unit) t) ≤ 2 ^ 22
      by true e = unknown-small t (grind (arith, nat_tests, e))
      by false e = known-small t (grind (arith, nat_tests, e))

  pub laid_by_form : (t : ℕ) → (has_bytes (type_of (tables_of unit) t) && const_once (type_of (tables_of unit) t)) ≡ is_laid (type_of (tables_of unit) t)
  laid_by_form t =
      let u = type_of (tables_of unit) t in
      ap (λ b. b && const_once u) (sym (ap (λ b. b && has_bytes u) (small-test (size [] u) (all_small t))))
