-- Sizes of types, while no class has a definition.
use Rattle.std.proofs.Common.{◌≡◌, ℕ, zero, suc, ◌<◌, ◌≤◌, ◌*◌, ◌^◌, ◌==◌, Bool, true, false, nat_le, [], Option, None, Some, slice_get, refl, sym, ap, ◌∙◌, if◌then◌else◌, arith, lit≤, ◌/◌}
use Rattle.cf_base.specs.declared.kind.Kind.{Kind}
use Rattle.cf_base.specs.declared.kind.Kind.TheVariants as kind
use Rattle.cf_base.specs.Integers.{width}
use Rattle.std.proofs.Math.Nat.{mul-zero, mul-suc, mul-one}
use Rattle.std.proofs.lemmas.Bool.Decides.{nat_tests}
use Rattle.std.proofs.lemmas.Bool.{eqb-true}
use Rattle.cf_types.specs.declared.ty.Ty.{Ty}
use Rattle.cf_types.specs.declared.ty.Ty.TheVariants as ty
use Rattle.cf_types.specs.Table.{Table, NamesBelow}
use Rattle.cf_classes.specs.Layout.{Extent, extent, size_step, scalar, repeated_in, scalar_bytes, no_layout, accepted_size, array_bytes}
use Rattle.cf_classes.proofs.Trees.{of_type-at}

abbrev no_classes : ℕ → Extent
no_classes c = no_layout.whole

-- what the test of a size finds
above : (n m : ℕ) → nat_le n m ≡ false → m < n
above n m e = grind (arith, nat_tests)

accepted : (n : ℕ) → n ≤ 2 ^ 22 → accepted_size n ≡ Some n
accepted n h = by (nat_le n (2 ^ 22)) refl
  where
    by : (b : Bool) → nat_le n (2 ^ 22) ≡ b → (if b then Some n else None) ≡ Some n
    by true e = refl
    by false e = absurd (omega (arith, above n (2 ^ 22) e))

refused : (n : ℕ) → 2 ^ 22 < n → accepted_size n ≡ None
refused n h = by (nat_le n (2 ^ 22)) refl
  where
    by : (b : Bool) → nat_le n (2 ^ 22) ≡ b → (if b then Some n else None) ≡ None
    by true e = let k : n ≤ 2 ^ 22 = grind (arith, nat_tests) in absurd (omega arith)
    by false e = refl

small : (k : Kind) → width k / 8 ≤ 2 ^ 22
small kind.Char = lit≤ tt
small kind.SChar = lit≤ tt
small kind.UChar = lit≤ tt
small kind.Short = lit≤ tt
small kind.UShort = lit≤ tt
small kind.Int = lit≤ tt
small kind.UInt = lit≤ tt
small kind.Long = lit≤ tt
small kind.ULong = lit≤ tt

same_pair : (a b : ℕ × ℕ) → Some a ≡ Some b → a ≡ b
same_pair a b e = cc

module _ (types : Table) (t : ℕ) where
  pub extent-at : (ty : Ty) → slice_get types.types t ≡ Some ty → NamesBelow t ty → extent types [] t ≡ size_step no_classes (extent types []) ty
  extent-at ty.Void h below = (of_type-at (scalar 0) (size_step no_classes) types t ty.Void h).2
  extent-at (ty.Int k) h below = (of_type-at (scalar 0) (size_step no_classes) types t (ty.Int k) h).2
  extent-at (ty.Enum e) h below = (of_type-at (scalar 0) (size_step no_classes) types t (ty.Enum e) h).2
  extent-at (ty.Class c) h below = (of_type-at (scalar 0) (size_step no_classes) types t (ty.Class c) h).2
  extent-at (ty.Ptr u) h below = (of_type-at (scalar 0) (size_step no_classes) types t (ty.Ptr u) h).2
  extent-at (ty.Ref u) h below = (of_type-at (scalar 0) (size_step no_classes) types t (ty.Ref u) h).2
  extent-at (ty.Array u n) h below =
      let r = of_type-at (scalar 0) (size_step no_classes) types t (ty.Array u n) h in
      r.2 ∙ ap (λ (e : Extent). let x : Extent = record { size = e.size * n; align = e.align } in x) (r.1 u below)
  extent-at (ty.Fun f) h below = (of_type-at (scalar 0) (size_step no_classes) types t (ty.Fun f) h).2
  extent-at (ty.MemData c u) h below = (of_type-at (scalar 0) (size_step no_classes) types t (ty.MemData c u) h).2
  extent-at (ty.MemFun c f) h below = (of_type-at (scalar 0) (size_step no_classes) types t (ty.MemFun c f) h).2
  extent-at (ty.Const u) h below = let r = of_type-at (scalar 0) (size_step no_classes) types t (ty.Const u) h in r.2 ∙ r.1 u below

  pub scalar-at : (ty : Ty) → slice_get types.types t ≡ Some ty → NamesBelow t ty → repeated_in ty ≡ None → accepted_size (extent types [] t).size ≡ Some (scalar_bytes ty)
  scalar-at ty.Void h below none = ap (λ (e : Extent). accepted_size e.size) (extent-at ty.Void h below)
  scalar-at (ty.Int k) h below none = ap (λ (e : Extent). accepted_size e.size) (extent-at (ty.Int k) h below) ∙ accepted (width k / 8) (small k)
  scalar-at (ty.Enum e) h below none = ap (λ (x : Extent). accepted_size x.size) (extent-at (ty.Enum e) h below)
  scalar-at (ty.Class c) h below none = ap (λ (e : Extent). accepted_size e.size) (extent-at (ty.Class c) h below)
  scalar-at (ty.Ptr u) h below none = ap (λ (e : Extent). accepted_size e.size) (extent-at (ty.Ptr u) h below)
  scalar-at (ty.Ref u) h below none = ap (λ (e : Extent). accepted_size e.size) (extent-at (ty.Ref u) h below)
  scalar-at (ty.Array u n) h below none = cc
  scalar-at (ty.Fun f) h below none = ap (λ (e : Extent). accepted_size e.size) (extent-at (ty.Fun f) h below)
  scalar-at (ty.MemData c u) h below none = ap (λ (e : Extent). accepted_size e.size) (extent-at (ty.MemData c u) h below)
  scalar-at (ty.MemFun c f) h below none = ap (λ (e : Extent). accepted_size e.size) (extent-at (ty.MemFun c f) h below)
  scalar-at (ty.Const u) h below none = cc

  pub repeated-at : (ty : Ty) (u n : ℕ) → slice_get types.types t ≡ Some ty → NamesBelow t ty → repeated_in ty ≡ Some (u, n) → (extent types [] t).size ≡ (extent types [] u).size * n
  repeated-at (ty.Array v m) u n h below some =
      let p : v ≡ u = ap (λ (x : ℕ × ℕ). x.0) (same_pair (v, m) (u, n) some) in
      let q : m ≡ n = ap (λ (x : ℕ × ℕ). x.1) (same_pair (v, m) (u, n) some) in
      ap (λ (e : Extent). e.size) (extent-at (ty.Array v m) h below) ∙ ap (λ w. (extent types [] w).size * m) p ∙ ap (λ w. (extent types [] u).size * w) q
  repeated-at (ty.Const v) u n h below some =
      let p : v ≡ u = ap (λ (x : ℕ × ℕ). x.0) (same_pair (v, 1) (u, n) some) in
      let q : 1 ≡ n = ap (λ (x : ℕ × ℕ). x.1) (same_pair (v, 1) (u, n) some) in
      ap (λ (e : Extent). e.size) (extent-at (ty.Const v) h below) ∙ ap (λ w. (extent types [] w).size) p ∙ sym (mul-one (extent types [] u).size) ∙ ap (λ w. (extent types [] u).size * w) q
  repeated-at other u n h below some = cc

abbrev empty_array : Option ℕ
empty_array = Some 0

-- elements of a size that is not accepted make no accepted array, but an empty one
large : (n k : ℕ) → 2 ^ 22 < n → (if k == 0 then empty_array else None) ≡ accepted_size (n * k)
large n zero h = sym (ap accepted_size (mul-zero n) ∙ accepted 0 (omega arith))
large n (suc k) h = by (suc k == 0) refl ∙ sym (refused (n * suc k) (omega (arith, mul-suc n k)))
  where
    by : (b : Bool) → (suc k == 0) ≡ b → (if b then empty_array else None) ≡ None
    by true e = absurd (omega (arith, eqb-true (suc k) 0 e))
    by false e = refl

pub array-bytes : (n k : ℕ) → array_bytes (accepted_size n) k ≡ accepted_size (n * k)
array-bytes n k = by (nat_le n (2 ^ 22)) refl
  where
    by : (b : Bool) → nat_le n (2 ^ 22) ≡ b → array_bytes (if b then Some n else None) k ≡ accepted_size (n * k)
    by true e = refl
    by false e = large n k (above n (2 ^ 22) e)
