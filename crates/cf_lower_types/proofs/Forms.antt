-- Forms of types, and what they name.
use Rattle.std.proofs.Common.{◌≡◌, ℕ, ◌<◌, length, Some, None, refl, ap, ◌∙◌, arith}
use Rattle.cf_types.specs.declared.ty.Ty.{Ty}
use Rattle.cf_types.specs.declared.ty.Ty.TheVariants as ty
use Rattle.cf_types.specs.Table.{Names, NamesBelow}
use Rattle.cf_core.specs.Types.{without_const}
use Rattle.cf_core.specs.FromTypes.{Tables, type_of, type_step}
use Rattle.cf_lower_types.specs.declared.form.Form.{Form}
use Rattle.cf_lower_types.specs.declared.form.Form.TheVariants as form
use Rattle.cf_lower_types.specs.Bare.{bare, form_type, HasEnum, Named, NamesFun}
use Rattle.cf_lower_types.specs.Forms.{under_const, form_in, elements_in}

same : {A : Type 0} (a b : A) → Some a ≡ Some b → a ≡ b
same a b e = cc

module _ (tables : Tables) (t : ℕ) where
  -- const

  inside_const : (v : Ty) (u : ℕ) → under_const v ≡ Some u → without_const (type_step tables (type_of tables) v) ≡ bare tables u
  inside_const (ty.Const w) u e = ap (bare tables) (same w u e)
  inside_const v u e = cc

  pub bare_const : (v : Ty) (u : ℕ) → type_of tables t ≡ type_step tables (type_of tables) v → under_const v ≡ Some u → bare tables t ≡ bare tables u
  bare_const v u e k = ap without_const e ∙ inside_const v u k

  pub const_below : (v : Ty) (u : ℕ) → NamesBelow t v → under_const v ≡ Some u → u < t
  const_below (ty.Const w) u below e = let p : w ≡ u = same w u e in omega (arith, below, p)
  const_below v u below e = cc

  -- other types

  form_step : (v : Ty) → under_const v ≡ None → without_const (type_step tables (type_of tables) v) ≡ form_type tables (form_in v)
  form_step ty.Void e = refl
  form_step (ty.Int k) e = refl
  form_step (ty.Enum n) e = refl
  form_step (ty.Class c) e = refl
  form_step (ty.Ptr u) e = refl
  form_step (ty.Ref u) e = refl
  form_step (ty.Array u n) e = refl
  form_step (ty.Fun f) e = refl
  form_step (ty.MemData c u) e = refl
  form_step (ty.MemFun c f) e = refl
  form_step (ty.Const u) e = cc

  pub bare_form : (v : Ty) → type_of tables t ≡ type_step tables (type_of tables) v → under_const v ≡ None → bare tables t ≡ form_type tables (form_in v)
  bare_form v e k = ap without_const e ∙ form_step v k

  pub form_named : (v : Ty) → Names tables.types.funs t (length tables.types.funs) v → NamesBelow t v → HasEnum tables v → Named tables t (form_in v)
  form_named ty.Void names below given = tt
  form_named (ty.Int k) names below given = tt
  form_named (ty.Enum n) names below given = given
  form_named (ty.Class c) names below given = tt
  form_named (ty.Ptr u) names below given = below
  form_named (ty.Ref u) names below given = below
  form_named (ty.Array u n) names below given = below
  form_named (ty.Fun f) names below given = record { within = names.fun_known 0 f (omega arith); parts = names.parts_known }
  form_named (ty.MemData c u) names below given = below
  form_named (ty.MemFun c f) names below given = record { within = names.fun_known 0 f (omega arith); parts = names.parts_known }
  form_named (ty.Const u) names below given = tt

-- what stands before one number stands before a later one
fun_later : (tables : Tables) (t u f : ℕ) → t < u → NamesFun tables t f → NamesFun tables u f
fun_later tables t u f lt names =
    record { within = names.within; parts = λ k d at. let below = names.parts k d at in omega (arith, below, lt) }

pub later : (tables : Tables) (t u : ℕ) (x : Form) → t < u → Named tables t x → Named tables u x
later tables t u form.Void lt named = tt
later tables t u (form.Integer k) lt named = tt
later tables t u (form.Enumeration e) lt named = named
later tables t u (form.Class c) lt named = tt
later tables t u (form.Pointer v) lt named = omega (arith, lt, named)
later tables t u (form.Reference v) lt named = omega (arith, lt, named)
later tables t u (form.Array v n) lt named = omega (arith, lt, named)
later tables t u (form.Function f) lt named = fun_later tables t u f lt named
later tables t u (form.DataMember c v) lt named = omega (arith, lt, named)
later tables t u (form.FunctionMember c f) lt named = fun_later tables t u f lt named

same_pair : (a b : ℕ × ℕ) → Some a ≡ Some b → a ≡ b
same_pair a b e = cc

-- the elements of an array stand before it
pub elements_below : (tables : Tables) (t : ℕ) (x : Form) (u n : ℕ) → Named tables t x → elements_in x ≡ Some (u, n) → u < t
elements_below tables t (form.Array v m) u n named e =
    let p : v ≡ u = ap (λ (y : ℕ × ℕ). y.0) (same_pair (v, m) (u, n) e) in omega (arith, named, p)
elements_below tables t x u n named e = cc
