-- The forms of types.
use Rattle.std.proofs.Common.{◌≡◌, ℕ, ◌+◌, ◌<◌, Bool, true, false, Some, slice_get, length, refl, sym, ap, subst, ◌∙◌, arith, true≢false}
use Rattle.cf_types.specs.declared.ty.Ty.{Ty}
use Rattle.cf_types.specs.declared.ty.Ty.TheVariants as ty
use Rattle.cf_types.specs.Table.{Table, IsTable, NamesBelow, passes, passing, takes_const}
use Rattle.cf_classes.proofs.Trees.{of_type-at}
use Rattle.cf_convert.specs.Constness.{type_at, bare}
use Rattle.cf_elab.specs.Lists.{is_char, char_step}
use Rattle.cf_elab_env.specs.Holds.{IsType}
use Rattle.cf_elab_env.proofs.Growth.{here, bare_const}
use Rattle.cf_elab_env.proofs.Sorts.{below_at}
use Rattle.cf_elab_initial.specs.Lists.Forms.{form_of, form_by, FormKnown, is_char_type}
use Rattle.cf_elab_initial.specs.declared.lists.form.Row.{Row}
use Rattle.cf_elab_initial.specs.declared.lists.form.Form.TheVariants.{Scalar, Array}

module _ (types : Table) (table : IsTable types) (t : ℕ) (known : IsType types t) where
  -- ---- the types char

  abbrev step_at : (v : Ty) → Type 0
  step_at v = (rec : ℕ → Bool) × ((u : ℕ) → u < t → rec u ≡ is_char types u) × (is_char types t ≡ char_step rec v)

  no_const : (rec : ℕ → Bool) (v : Ty) → takes_const v ≡ true → char_step rec v ≡ is_char_type v
  no_const rec (ty.Const x) h = absurd (true≢false (sym h))
  no_const rec (ty.Array x n) h = refl
  no_const rec (ty.Ref x) h = refl
  no_const rec (ty.Fun f) h = refl
  no_const rec ty.Void h = refl
  no_const rec (ty.Int k) h = refl
  no_const rec (ty.Enum n) h = refl
  no_const rec (ty.Class c) h = refl
  no_const rec (ty.Ptr x) h = refl
  no_const rec (ty.MemData c x) h = refl
  no_const rec (ty.MemFun c f) h = refl

  under_const : (u : ℕ) → type_at types t ≡ ty.Const u → is_char types u ≡ is_char_type (type_at types u)
  under_const u e =
      let at : slice_get types.types t ≡ Some (ty.Const u) = here types t known ∙ ap Some e in
      let taken : passes takes_const types.types u ≡ true = table.normal t (ty.Const u) at in
      let below : u < t = below_at types t (ty.Const u) table at in
      let inside : u < length types.types = omega arith in
      let r = of_type-at false char_step types u (type_at types u) (here types u inside) in
      r.2 ∙ no_const r.0 (type_at types u) (ap (passing takes_const) (sym (here types u inside)) ∙ taken)

  char_is : is_char types t ≡ is_char_type (type_at types (bare types t))
  char_is =
      let v = type_at types t in
      let r = of_type-at false char_step types t v (here types t known) in
      r.2 ∙ by v refl r.0 r.1
    where
      plain : (v : Ty) → type_at types t ≡ v → bare types t ≡ t → is_char_type v ≡ is_char_type (type_at types (bare types t))
      plain v e b = ap is_char_type (sym e) ∙ ap (λ t. is_char_type (type_at types t)) (sym b)

      by : (v : Ty) → type_at types t ≡ v → (rec : ℕ → Bool) → ((u : ℕ) → u < t → rec u ≡ is_char types u) → char_step rec v ≡ is_char_type (type_at types (bare types t))
      by (ty.Const u) e rec same =
          let below : u < t = below_at types t (ty.Const u) table (here types t known ∙ ap Some e) in
          same u below ∙ under_const u e ∙ ap (λ t. is_char_type (type_at types t)) (sym (bare_const types t u e))
      by ty.Void e rec same = plain ty.Void e (rw e refl)
      by (ty.Int k) e rec same = plain (ty.Int k) e (rw e refl)
      by (ty.Enum n) e rec same = plain (ty.Enum n) e (rw e refl)
      by (ty.Class c) e rec same = plain (ty.Class c) e (rw e refl)
      by (ty.Ptr x) e rec same = plain (ty.Ptr x) e (rw e refl)
      by (ty.Ref x) e rec same = plain (ty.Ref x) e (rw e refl)
      by (ty.Array x n) e rec same = plain (ty.Array x n) e (rw e refl)
      by (ty.Fun f) e rec same = plain (ty.Fun f) e (rw e refl)
      by (ty.MemData c x) e rec same = plain (ty.MemData c x) e (rw e refl)
      by (ty.MemFun c f) e rec same = plain (ty.MemFun c f) e (rw e refl)

  pub char_at : (b : ℕ) (v : Ty) (r : Bool) → b ≡ bare types t → v ≡ type_at types b → r ≡ is_char_type v → r ≡ is_char types t
  char_at b v r e found is = is ∙ ap is_char_type (found ∙ ap (type_at types) e) ∙ sym char_is

  -- ---- the form of a type

  pub array_known : (u n : ℕ) → ty.Array u n ≡ type_at types t → u < t
  array_known u n e = below_at types t (ty.Array u n) table (here types t known ∙ ap Some (sym e))

  pub array_form : (v : Ty) (r : Row) → v ≡ type_at types t → v ≡ ty.Array r.element r.count → r.is_char ≡ is_char types r.element → Array r ≡ form_of types t
  array_form v r e is char = (λ i. Array (record { is_char = char i; count = r.count; element = r.element })) ∙ ap (form_by types t) (sym is ∙ e)

  pub const_known : (u : ℕ) → ty.Const u ≡ type_at types t → IsType types u
  const_known u e =
      let below : u < t = below_at types t (ty.Const u) table (here types t known ∙ ap Some (sym e)) in
      omega arith

  pub const_form : (v : Ty) (u : ℕ) → v ≡ type_at types t → v ≡ ty.Const u → Scalar u ≡ form_of types t
  const_form v u e is = ap (form_by types t) (sym is ∙ e)

  pub other_form : (v : Ty) → v ≡ type_at types t → ((u n : ℕ) → v ≡ ty.Array u n → ⊥) → ((u : ℕ) → v ≡ ty.Const u → ⊥) → Scalar t ≡ form_of types t
  other_form v e no_array no_const = by v no_array no_const ∙ ap (form_by types t) e
    where
      by : (v : Ty) → ((u n : ℕ) → v ≡ ty.Array u n → ⊥) → ((u : ℕ) → v ≡ ty.Const u → ⊥) → Scalar t ≡ form_by types t v
      by (ty.Array u n) a c = absurd (a u n refl)
      by (ty.Const u) a c = absurd (c u refl)
      by ty.Void a c = refl
      by (ty.Int k) a c = refl
      by (ty.Enum n) a c = refl
      by (ty.Class d) a c = refl
      by (ty.Ptr u) a c = refl
      by (ty.Ref u) a c = refl
      by (ty.Fun f) a c = refl
      by (ty.MemData d u) a c = refl
      by (ty.MemFun d f) a c = refl

pub ruleset form_laws = (array_known, array_form, const_known, const_form, other_form)

pub ruleset char_laws = (char_at)
