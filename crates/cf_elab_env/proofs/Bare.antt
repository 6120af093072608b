-- A type without its const is asked the same by operators; and what operators ask of pointers bounds no number.
use Rattle.std.proofs.Common.{◌≡◌, ℕ, ◌<◌, Bool, true, false, length, Option, None, Some, slice_get, unwrap_or, ℤ, IsTrue, refl, sym, ap, subst, ◌∙◌, true≢false}
use Rattle.cf_base.specs.declared.kind.Kind.{Kind}
use Rattle.cf_types.specs.declared.ty.Ty.{Ty}
use Rattle.cf_types.specs.declared.ty.Ty.TheVariants as ty
use Rattle.cf_types.specs.Table.{Table, IsTable, passes, passing, takes_const}
use Rattle.cf_convert.specs.Constness.{type_at, bare}
use Rattle.cf_elab.specs.Operand.{Value, Sort, sort_of, ty_sort, pointer_sort}
use Rattle.cf_elab_env.specs.Holds.{Known, IsType, FitsIn, fits_sort}
use Rattle.cf_elab_env.proofs.Growth.{bare_const, bare-known, here}

-- no const stands on the type at this place
bare_plain : (types : Table) (u : ℕ) → takes_const (type_at types u) ≡ true → bare types u ≡ u
bare_plain types u taken = by (type_at types u) refl taken
  where
    by : (v : Ty) → type_at types u ≡ v → takes_const v ≡ true → bare types u ≡ u
    by (ty.Const x) e h = absurd (true≢false (sym h))
    by ty.Void e h = rw e refl
    by (ty.Int k) e h = rw e refl
    by (ty.Enum n) e h = rw e refl
    by (ty.Class c) e h = rw e refl
    by (ty.Ptr x) e h = rw e refl
    by (ty.Ref x) e h = rw e refl
    by (ty.Array x n) e h = rw e refl
    by (ty.Fun f) e h = rw e refl
    by (ty.MemData c x) e h = rw e refl
    by (ty.MemFun c f) e h = rw e refl

module _ (types : Table) (table : IsTable types) (t : ℕ) (known : t < length types.types) where
  -- under a const there is none
  const_once : (u : ℕ) → type_at types t ≡ ty.Const u → bare types u ≡ u
  const_once u e =
      let at : slice_get types.types t ≡ Some (ty.Const u) = here types t known ∙ ap Some e in
      let taken : passes takes_const types.types u ≡ true = table.normal t (ty.Const u) at in
      let inside : u < length types.types = subst (λ n. n < length types.types) (bare_const types t u e) (bare-known types t table known) in
      bare_plain types u (ap (passing takes_const) (sym (here types u inside)) ∙ taken)

  pub bare_bare : bare types (bare types t) ≡ bare types t
  bare_bare = by (type_at types t) refl
    where
      plain : bare types t ≡ t → bare types (bare types t) ≡ bare types t
      plain e = ap (bare types) e

      by : (v : Ty) → type_at types t ≡ v → bare types (bare types t) ≡ bare types t
      by (ty.Const u) e = let b = bare_const types t u e in ap (bare types) b ∙ const_once u e ∙ sym b
      by ty.Void e = plain (rw e refl)
      by (ty.Int k) e = plain (rw e refl)
      by (ty.Enum n) e = plain (rw e refl)
      by (ty.Class c) e = plain (rw e refl)
      by (ty.Ptr x) e = plain (rw e refl)
      by (ty.Ref x) e = plain (rw e refl)
      by (ty.Array x n) e = plain (rw e refl)
      by (ty.Fun f) e = plain (rw e refl)
      by (ty.MemData c x) e = plain (rw e refl)
      by (ty.MemFun c f) e = plain (rw e refl)

  pub sort_bare : sort_of types (bare types t) ≡ sort_of types t
  sort_bare = ap (λ b. ty_sort types (type_at types b)) bare_bare

  pub known_bare : (z : Option ℤ) → FitsIn types t z → FitsIn types (bare types t) z
  known_bare None fits = tt
  known_bare (Some z) fits = let P : Sort → Type 0 = λ s. IsTrue (fits_sort s z) in subst P (sym sort_bare) fits

-- a pointer bounds no number
pointer_fits : (t : ℕ) (v : Ty) (z : ℤ) → IsTrue (fits_sort (pointer_sort t v) z)
pointer_fits t ty.Void z = refl
pointer_fits t (ty.Int k) z = refl
pointer_fits t (ty.Enum n) z = refl
pointer_fits t (ty.Class c) z = refl
pointer_fits t (ty.Ptr x) z = refl
pointer_fits t (ty.Ref x) z = refl
pointer_fits t (ty.Array x n) z = refl
pointer_fits t (ty.Fun f) z = refl
pointer_fits t (ty.MemData c x) z = refl
pointer_fits t (ty.MemFun c f) z = refl
pointer_fits t (ty.Const x) z = refl

pub pointer_known : (types : Table) (p t : ℕ) (z : Option ℤ) → slice_get types.types p ≡ Some (ty.Ptr t) → FitsIn types p z
pointer_known types p t None at = tt
pointer_known types p t (Some z) at =
    let found : type_at types p ≡ ty.Ptr t = ap (λ o. unwrap_or o ty.Void) at in
    let plain : bare types p ≡ p = rw found refl in
    let sort : sort_of types p ≡ pointer_sort t (type_at types (bare types t)) = ap (λ b. ty_sort types (type_at types b)) plain ∙ ap (ty_sort types) found in
    let P : Sort → Type 0 = λ s. IsTrue (fits_sort s z) in subst P (sym sort) (pointer_fits t (type_at types (bare types t)) z)
