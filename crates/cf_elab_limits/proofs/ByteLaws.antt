-- The bytes of types without classes that are within the limit, by what each type is made of.
use Rattle.std.proofs.Common.{◌≡◌, ℕ, [], Option, Some, None, slice_get, refl, sym, ap, ◌∙◌}
use Rattle.cf_types.specs.declared.ty.Ty.{Ty}
use Rattle.cf_types.specs.declared.ty.Ty.TheVariants as ty
use Rattle.cf_types.specs.Table.{Table, NamesBelow}
use Rattle.cf_classes.specs.Layout.{extent, scalar_bytes, accepted_size, array_bytes, repeated_in}
use Rattle.cf_classes.proofs.TypeSizes.{scalar-at, repeated-at, array-bytes}
use Rattle.std.proofs.Math.Nat.{mul-one}

module _ (types : Table) (t : ℕ) (h : Ty) (kept : slice_get types.types t ≡ Some h) (below : NamesBelow t h) where
  pub array_is : (u n : ℕ) (e r : Option ℕ) → h ≡ ty.Array u n → e ≡ accepted_size (extent types [] u).size → r ≡ array_bytes e n → r ≡ accepted_size (extent types [] t).size
  array_is u n e r is element times =
      times ∙ ap (λ e. array_bytes e n) element ∙ array-bytes (extent types [] u).size n ∙ ap accepted_size (sym (repeated-at types t h u n kept below (ap repeated_in is)))

  pub const_is : (u : ℕ) (r : Option ℕ) → h ≡ ty.Const u → r ≡ accepted_size (extent types [] u).size → r ≡ accepted_size (extent types [] t).size
  const_is u r is inside =
      inside ∙ ap accepted_size (sym (mul-one (extent types [] u).size)) ∙ ap accepted_size (sym (repeated-at types t h u 1 kept below (ap repeated_in is)))

  pub scalar_is : (b : ℕ) → ((u n : ℕ) → h ≡ ty.Array u n → ⊥) → ((u : ℕ) → h ≡ ty.Const u → ⊥) → b ≡ scalar_bytes h → Some b ≡ accepted_size (extent types [] t).size
  scalar_is b no_array no_const is = ap Some is ∙ sym (scalar-at types t h kept below (by h no_array no_const))
    where
      by : (h : Ty) → ((u n : ℕ) → h ≡ ty.Array u n → ⊥) → ((u : ℕ) → h ≡ ty.Const u → ⊥) → repeated_in h ≡ None
      by (ty.Array u n) a k = absurd (a u n refl)
      by (ty.Const u) a k = absurd (k u refl)
      by other a k = refl

pub ruleset byte_laws = (array_is, const_is, scalar_is)
