-- The planner of a type by what the type names.
use Rattle.std.proofs.Common.{◌≡◌, ℕ, zero, suc, ◌+◌, ◌<◌, inl, Bool, true, false, Option, None, Some, slice_get, length, IsTrue, refl, sym, ap, subst, ◌∙◌, arith, true≢false}
use Rattle.std.specs.Option.{option_map_or}
use Rattle.std.proofs.lemmas.Option.{slice_get_within}
use Rattle.cf_base.specs.declared.kind.Kind.{Kind}
use Rattle.cf_types.specs.declared.ty.Ty.{Ty}
use Rattle.cf_types.specs.declared.ty.Ty.TheVariants as ty
use Rattle.cf_types.specs.Table.{Table, Enters, IsTable, NamesBelow, passes, passing, takes_const}
use Rattle.cf_classes.specs.TypeTree.{of_type}
use Rattle.cf_classes.proofs.Trees.{of_type-at}
use Rattle.cf_convert.specs.Constness.{type_at}
use Rattle.cf_elab.specs.Answer.{Answer, Made, Refused, Passed}
use Rattle.cf_elab.specs.Env.{Env}
use Rattle.cf_elab.specs.Lists.{Planner, planner, planner_step, scalar_planner, array_planner, number_of, is_char, is_char_kind, char_step}
use Rattle.cf_elab.specs.Made.{entered_type, place_in, same_ty}
use Rattle.cf_elab_env.specs.Shut as made
use Rattle.cf_elab_env.specs.Holds.{IsType}
use Rattle.cf_elab_env.proofs.Growth.{here}
use Rattle.cf_elab_env.proofs.Interned.{interned}
use Rattle.cf_elab_env.proofs.Sorts.{below_at}
use Rattle.cf_elab_initial.specs.Lists.Forms.{form_of, form_by, planner_of}

-- ---- the number of a type of the table

abbrev number_made : Answer ℕ → ℕ
number_made (Made n env) = n
number_made (Refused rule at) = 0
number_made (Passed bound most) = 0

module _ (env : Env) (table : IsTable env.types) where
  abbrev types : Table
  types = env.types

  entered_once : (v : Ty) (t : ℕ) → slice_get types.types t ≡ Some v → (entered_type types v (place_in (same_ty v) 0 types.types)).0 ≡ t
  unfolding made.intern
  entered_once v t h =
      let enters : Enters types.types types.types v t = record {
        within = slice_get_within types.types t v h;
        found = h;
        only = λ other k. table.one_number.same other t v k h;
        kept = inl refl;
      } in
      ap number_made (interned env types v t enters refl)

  pub number_is : (v : Ty) (t : ℕ) → slice_get types.types t ≡ Some v → number_of types v ≡ t
  number_is v t h = by (place_in (same_ty v) 0 types.types) (entered_once v t h)
    where
      by : (o : Option ℕ) → (entered_type types v o).0 ≡ t → option_map_or (λ n. n) o 0 ≡ t
      by None e = absurd (omega (arith, slice_get_within types.types t v h))
      by (Some n) e = e

  -- ---- the planner of a type is made of those of the types that it names

  abbrev made_from : Planner → ℕ → Planner
  made_from none t = of_type none (planner_step types) types t

  step_same : (f g : ℕ → Planner) (t : ℕ) (v : Ty) → NamesBelow t v → ((u : ℕ) → u < t → f u ≡ g u) → planner_step types f v ≡ planner_step types g v
  step_same f g t (ty.Array u n) below same = ap (array_planner (is_char types u) n) (same u below)
  step_same f g t (ty.Const u) below same = same u below
  step_same f g t ty.Void below same = refl
  step_same f g t (ty.Int k) below same = refl
  step_same f g t (ty.Enum n) below same = refl
  step_same f g t (ty.Class c) below same = refl
  step_same f g t (ty.Ptr u) below same = refl
  step_same f g t (ty.Ref u) below same = refl
  step_same f g t (ty.Fun h) below same = refl
  step_same f g t (ty.MemData c u) below same = refl
  step_same f g t (ty.MemFun c h) below same = refl

  -- whatever stands for what is no type
  same_made : (n t : ℕ) → t < n → t < length types.types → (a b : Planner) → made_from a t ≡ made_from b t
  same_made zero t before known a b = absurd (omega arith)
  same_made (suc n) t before known a b =
      let v = type_at types t in
      let at = here types t known in
      let r = of_type-at a (planner_step types) types t v at in
      let s = of_type-at b (planner_step types) types t v at in
      r.2 ∙ step_same r.0 s.0 t v (below_at types t v table at) (λ u k. r.1 u k ∙ same_made n u (omega arith) (omega arith) a b ∙ sym (s.1 u k)) ∙ sym s.2

  pub planner_step_is : (t : ℕ) → IsType types t → planner types t ≡ planner_step types (planner types) (type_at types t)
  planner_step_is t known =
      let v = type_at types t in
      let at = here types t known in
      let r = of_type-at (scalar_planner t) (planner_step types) types t v at in
      r.2 ∙ step_same r.0 (planner types) t v (below_at types t v table at) (λ u k. r.1 u k ∙ same_made t u k (omega arith) (scalar_planner t) (scalar_planner u))

  -- under a const there is neither a const nor an array
  const_planner : (t u : ℕ) → IsType types t → type_at types t ≡ ty.Const u → planner types u ≡ scalar_planner u
  const_planner t u known e =
      let at : slice_get types.types t ≡ Some (ty.Const u) = here types t known ∙ ap Some e in
      let taken : passes takes_const types.types u ≡ true = table.normal t (ty.Const u) at in
      let below : u < t = below_at types t (ty.Const u) table at in
      let inside : u < length types.types = omega arith in
      planner_step_is u inside ∙ by (type_at types u) (here types u inside) (ap (passing takes_const) (sym (here types u inside)) ∙ taken)
    where
      by : (v : Ty) → slice_get types.types u ≡ Some v → takes_const v ≡ true → planner_step types (planner types) v ≡ scalar_planner u
      by (ty.Const x) at h = absurd (true≢false (sym h))
      by (ty.Array x n) at h = absurd (true≢false (sym h))
      by (ty.Ref x) at h = absurd (true≢false (sym h))
      by (ty.Fun f) at h = absurd (true≢false (sym h))
      by ty.Void at h = ap scalar_planner (number_is ty.Void u at)
      by (ty.Int k) at h = ap scalar_planner (number_is (ty.Int k) u at)
      by (ty.Enum n) at h = ap scalar_planner (number_is (ty.Enum n) u at)
      by (ty.Class c) at h = ap scalar_planner (number_is (ty.Class c) u at)
      by (ty.Ptr x) at h = ap scalar_planner (number_is (ty.Ptr x) u at)
      by (ty.MemData c x) at h = ap scalar_planner (number_is (ty.MemData c x) u at)
      by (ty.MemFun c f) at h = ap scalar_planner (number_is (ty.MemFun c f) u at)

  pub planner_is : (t : ℕ) → IsType types t → planner types t ≡ planner_of types (form_of types t)
  planner_is t known = planner_step_is t known ∙ by (type_at types t) refl
    where
      scalar : (v : Ty) → type_at types t ≡ v → scalar_planner (number_of types v) ≡ scalar_planner t
      scalar v e = ap scalar_planner (number_is v t (here types t known ∙ ap Some e))

      by : (v : Ty) → type_at types t ≡ v → planner_step types (planner types) v ≡ planner_of types (form_by types t v)
      by (ty.Array u n) e = refl
      by (ty.Const u) e = const_planner t u known e
      by ty.Void e = scalar ty.Void e
      by (ty.Int k) e = scalar (ty.Int k) e
      by (ty.Enum n) e = scalar (ty.Enum n) e
      by (ty.Class c) e = scalar (ty.Class c) e
      by (ty.Ptr u) e = scalar (ty.Ptr u) e
      by (ty.Ref u) e = scalar (ty.Ref u) e
      by (ty.Fun f) e = scalar (ty.Fun f) e
      by (ty.MemData c u) e = scalar (ty.MemData c u) e
      by (ty.MemFun c f) e = scalar (ty.MemFun c f) e
