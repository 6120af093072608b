-- No user's function converts a value where no class is defined.
use Rattle.std.proofs.Common.{◌≡◌, ℕ, [], refl}
use Rattle.cf_types.specs.declared.ty.Ty.{Ty}
use Rattle.cf_types.specs.declared.ty.Ty.TheVariants as ty
use Rattle.cf_types.specs.Table.{Table}
use Rattle.cf_convert.specs.declared.conv.Val.{Val}
use Rattle.cf_convert.specs.Constness.{type_at}
use Rattle.cf_convert.specs.UserConversion.{Nothing, by_user, by_constructor, by_conversion}

module _ (types : Table) (v : Val) (to : ℕ) where
  abbrev None_built : Type 0
  None_built = by_constructor types [] v to ≡ []

  built_const : (t : ℕ) → type_at types to ≡ ty.Const t → (w : Ty) → type_at types t ≡ w → None_built
  built_const t e ty.Void f = rw (e, e, f) refl
  built_const t e (ty.Int k) f = rw (e, e, f) refl
  built_const t e (ty.Enum n) f = rw (e, e, f) refl
  built_const t e (ty.Class c) f = rw (e, e, f) refl
  built_const t e (ty.Ptr x) f = rw (e, e, f) refl
  built_const t e (ty.Ref x) f = rw (e, e, f) refl
  built_const t e (ty.Array x n) f = rw (e, e, f) refl
  built_const t e (ty.Fun x) f = rw (e, e, f) refl
  built_const t e (ty.MemData c x) f = rw (e, e, f) refl
  built_const t e (ty.MemFun c x) f = rw (e, e, f) refl
  built_const t e (ty.Const x) f = rw (e, e, f) refl

  built_const_ref : (u t : ℕ) → type_at types to ≡ ty.Ref u → type_at types u ≡ ty.Const t → (w : Ty) → type_at types t ≡ w → None_built
  built_const_ref u t e d ty.Void f = rw (e, d, f) refl
  built_const_ref u t e d (ty.Int k) f = rw (e, d, f) refl
  built_const_ref u t e d (ty.Enum n) f = rw (e, d, f) refl
  built_const_ref u t e d (ty.Class c) f = rw (e, d, f) refl
  built_const_ref u t e d (ty.Ptr x) f = rw (e, d, f) refl
  built_const_ref u t e d (ty.Ref x) f = rw (e, d, f) refl
  built_const_ref u t e d (ty.Array x n) f = rw (e, d, f) refl
  built_const_ref u t e d (ty.Fun x) f = rw (e, d, f) refl
  built_const_ref u t e d (ty.MemData c x) f = rw (e, d, f) refl
  built_const_ref u t e d (ty.MemFun c x) f = rw (e, d, f) refl
  built_const_ref u t e d (ty.Const x) f = rw (e, d, f) refl

  built_ref : (u : ℕ) → type_at types to ≡ ty.Ref u → (w : Ty) → type_at types u ≡ w → None_built
  built_ref u e ty.Void g = rw (e, g, g) refl
  built_ref u e (ty.Int k) g = rw (e, g, g) refl
  built_ref u e (ty.Enum n) g = rw (e, g, g) refl
  built_ref u e (ty.Class c) g = rw (e, g, g) refl
  built_ref u e (ty.Ptr x) g = rw (e, g, g) refl
  built_ref u e (ty.Ref x) g = rw (e, g, g) refl
  built_ref u e (ty.Array x n) g = rw (e, g, g) refl
  built_ref u e (ty.Fun x) g = rw (e, g, g) refl
  built_ref u e (ty.MemData c x) g = rw (e, g, g) refl
  built_ref u e (ty.MemFun c x) g = rw (e, g, g) refl
  built_ref u e (ty.Const x) f = built_const_ref u x e f (type_at types x) refl

  built : (w : Ty) → type_at types to ≡ w → None_built
  built ty.Void e = rw (e, e, e) refl
  built (ty.Int k) e = rw (e, e, e) refl
  built (ty.Enum n) e = rw (e, e, e) refl
  built (ty.Class c) e = rw (e, e, e) refl
  built (ty.Ptr x) e = rw (e, e, e) refl
  built (ty.Ref x) e = built_ref x e (type_at types x) refl
  built (ty.Array x n) e = rw (e, e, e) refl
  built (ty.Fun x) e = rw (e, e, e) refl
  built (ty.MemData c x) e = rw (e, e, e) refl
  built (ty.MemFun c x) e = rw (e, e, e) refl
  built (ty.Const x) e = built_const x e (type_at types x) refl

  abbrev None_converts : Type 0
  None_converts = by_conversion types [] v to ≡ []

  from_const : (t : ℕ) → type_at types v.ty ≡ ty.Const t → (w : Ty) → type_at types t ≡ w → None_converts
  from_const t e ty.Void f = rw (e, f) refl
  from_const t e (ty.Int k) f = rw (e, f) refl
  from_const t e (ty.Enum n) f = rw (e, f) refl
  from_const t e (ty.Class c) f = rw (e, f) refl
  from_const t e (ty.Ptr x) f = rw (e, f) refl
  from_const t e (ty.Ref x) f = rw (e, f) refl
  from_const t e (ty.Array x n) f = rw (e, f) refl
  from_const t e (ty.Fun x) f = rw (e, f) refl
  from_const t e (ty.MemData c x) f = rw (e, f) refl
  from_const t e (ty.MemFun c x) f = rw (e, f) refl
  from_const t e (ty.Const x) f = rw (e, f) refl

  from : (w : Ty) → type_at types v.ty ≡ w → None_converts
  from ty.Void e = rw (e, e) refl
  from (ty.Int k) e = rw (e, e) refl
  from (ty.Enum n) e = rw (e, e) refl
  from (ty.Class c) e = rw (e, e) refl
  from (ty.Ptr x) e = rw (e, e) refl
  from (ty.Ref x) e = rw (e, e) refl
  from (ty.Array x n) e = rw (e, e) refl
  from (ty.Fun x) e = rw (e, e) refl
  from (ty.MemData c x) e = rw (e, e) refl
  from (ty.MemFun c x) e = rw (e, e) refl
  from (ty.Const x) e = from_const x e (type_at types x) refl

  pub no_user_function : by_user types [] v to ≡ Nothing
  no_user_function = rw (built (type_at types to) refl, from (type_at types v.ty) refl) refl
