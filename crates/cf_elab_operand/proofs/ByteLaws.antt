-- The bytes of types without classes, by what each type is made of.
use Rattle.std.proofs.Common.{◌≡◌, ℕ, ◌*◌, [], Some, slice_get, refl, sym, ap, ◌∙◌}
use Rattle.cf_types.specs.declared.ty.Ty.{Ty}
use Rattle.cf_types.specs.declared.ty.Ty.TheVariants as ty
use Rattle.cf_types.specs.Table.{Table, NamesBelow}
use Rattle.cf_classes.specs.Layout.{Extent, extent, scalar_bytes, repeated_in}
use Rattle.cf_classes.proofs.TypeSizes.{extent-at, repeated-at}

module _ (types : Table) (t : ℕ) (h : Ty) (kept : slice_get types.types t ≡ Some h) (below : NamesBelow t h) where
  pub array_bytes : (u n e b : ℕ) → h ≡ ty.Array u n → e ≡ (extent types [] u).size → b ≡ e * n → b ≡ (extent types [] t).size
  array_bytes u n e b is element times =
      times ∙ ap (λ e. e * n) element ∙ sym (repeated-at types t h u n kept below (ap repeated_in is))

  pub const_bytes : (u b : ℕ) → h ≡ ty.Const u → b ≡ (extent types [] u).size → b ≡ (extent types [] t).size
  const_bytes u b is inside = inside ∙ sym (by h is kept below)
    where
      by : (h : Ty) → h ≡ ty.Const u → slice_get types.types t ≡ Some h → NamesBelow t h → (extent types [] t).size ≡ (extent types [] u).size
      by (ty.Const v) e kept below = let same : v ≡ u = cc in ap (λ (x : Extent). x.size) (extent-at types t (ty.Const v) kept below) ∙ ap (λ w. (extent types [] w).size) same
      by other e kept below = cc

  pub scalar_is : (b : ℕ) → ((u n : ℕ) → h ≡ ty.Array u n → ⊥) → ((u : ℕ) → h ≡ ty.Const u → ⊥) → b ≡ scalar_bytes h → b ≡ (extent types [] t).size
  scalar_is b no_array no_const is = is ∙ sym (by h no_array no_const kept below)
    where
      size : Extent → ℕ
      size x = x.size

      by : (h : Ty) → ((u n : ℕ) → h ≡ ty.Array u n → ⊥) → ((u : ℕ) → h ≡ ty.Const u → ⊥) → slice_get types.types t ≡ Some h → NamesBelow t h
          → (extent types [] t).size ≡ scalar_bytes h
      by (ty.Array u n) a k kept below = absurd (a u n refl)
      by (ty.Const u) a k kept below = absurd (k u refl)
      by ty.Void a k kept below = ap size (extent-at types t ty.Void kept below)
      by (ty.Int i) a k kept below = ap size (extent-at types t (ty.Int i) kept below)
      by (ty.Enum e) a k kept below = ap size (extent-at types t (ty.Enum e) kept below)
      by (ty.Class c) a k kept below = ap size (extent-at types t (ty.Class c) kept below)
      by (ty.Ptr u) a k kept below = ap size (extent-at types t (ty.Ptr u) kept below)
      by (ty.Ref u) a k kept below = ap size (extent-at types t (ty.Ref u) kept below)
      by (ty.Fun f) a k kept below = ap size (extent-at types t (ty.Fun f) kept below)
      by (ty.MemData c u) a k kept below = ap size (extent-at types t (ty.MemData c u) kept below)
      by (ty.MemFun c f) a k kept below = ap size (extent-at types t (ty.MemFun c f) kept below)

pub ruleset byte_laws = (array_bytes, const_bytes, scalar_is)
