-- The const of a type, by what the type is.
use Rattle.std.proofs.Common.{◌≡◌, ℕ, zero, suc, ◌+◌, ◌<◌, Bool, true, false, List, length, Option, None, Some, slice_get, IsTrue, refl, sym, ap, subst, ◌∙◌, true≢false, arith}
use Rattle.cf_base.specs.declared.kind.Kind.{Kind}
use Rattle.cf_types.specs.declared.ty.Ty.{Ty}
use Rattle.cf_types.specs.declared.ty.Ty.TheVariants as ty
use Rattle.cf_types.specs.Table.{Table, IsTable, NamesBelow, passes, passing, takes_const}
use Rattle.cf_types.proofs.Places.{Enters-old}
use Rattle.cf_classes.specs.TypeTree.{of_type}
use Rattle.cf_classes.proofs.Trees.{of_type-at}
use Rattle.cf_convert.specs.Constness.{type_at}
use Rattle.cf_elab.specs.Answer.{Answer, Made, Elab, onward, ◌>>=◌, gives}
use Rattle.cf_elab.specs.Env.{Env}
use Rattle.cf_elab.specs.Made as made
use Rattle.cf_elab_env.specs.Shut as shut
use Rattle.cf_elab_env.proofs.Growth.{here}
use Rattle.cf_elab_env.proofs.Interned.{interned}
use Rattle.cf_elab_env.proofs.Sorts.{below_at}

step-same : (f g : ℕ → Elab ℕ) (t : ℕ) (v : Ty) → NamesBelow t v → ((u : ℕ) → u < t → f u ≡ g u) → made.const_step f v ≡ made.const_step g v
step-same f g t (ty.Array u n) below same = ap (λ (m : Elab ℕ). m >>= (λ w. made.array_of w n)) (same u below)
step-same f g t ty.Void below same = refl
step-same f g t (ty.Int k) below same = refl
step-same f g t (ty.Enum n) below same = refl
step-same f g t (ty.Class c) below same = refl
step-same f g t (ty.Ptr u) below same = refl
step-same f g t (ty.Ref u) below same = refl
step-same f g t (ty.Fun h) below same = refl
step-same f g t (ty.MemData c u) below same = refl
step-same f g t (ty.MemFun c h) below same = refl
step-same f g t (ty.Const u) below same = refl

module _ (types : Table) (table : IsTable types) where
  -- a type of the table doesn't come to the value for those that are not in it
  none-same : (a b : Elab ℕ) (n t : ℕ) → t < n → t < length types.types → of_type a made.const_step types t ≡ of_type b made.const_step types t
  none-same a b zero t before h = absurd (omega arith)
  none-same a b (suc n) t before h =
      let v = type_at types t in
      let at : slice_get types.types t ≡ Some v = here types t h in
      let x = of_type-at a made.const_step types t v at in
      let y = of_type-at b made.const_step types t v at in
      x.2 ∙ step-same x.0 y.0 t v (below_at types t v table at) (λ u k. x.1 u k ∙ none-same a b n u (omega arith) (omega arith) ∙ sym (y.1 u k)) ∙ sym y.2

  const-at : (t : ℕ) → t < length types.types → of_type (gives t) made.const_step types t ≡ made.const_step (λ u. of_type (gives u) made.const_step types u) (type_at types t)
  const-at t h =
      let v = type_at types t in
      let at : slice_get types.types t ≡ Some v = here types t h in
      let x = of_type-at (gives t) made.const_step types t v at in
      x.2 ∙ step-same x.0 (λ u. of_type (gives u) made.const_step types u) t v (below_at types t v table at)
      (λ u k. x.1 u k ∙ none-same (gives t) (gives u) (u + 1) u (omega arith) (omega arith))

-- a type that the table has keeps its number
interned_again : (env : Env) (t : ℕ) (v : Ty) → IsTable env.types → slice_get env.types.types t ≡ Some v → made.intern v env ≡ Made t env
unfolding shut.intern
interned_again env t v table at = interned env env.types v t (Enters-old env.types.types v t table.one_number at) refl

module _ (env : Env) (t : ℕ) (table : IsTable env.types) (known : t < length env.types.types) where
  const-step : shut.const_of t env ≡ made.const_step (λ u. of_type (gives u) made.const_step env.types u) (type_at env.types t) env
  unfolding shut.const_of
  const-step = ap (λ (m : Elab ℕ). m env) (const-at env.types table t known)

  tested : (b : Bool) → passes takes_const env.types.types t ≡ b → takes_const (type_at env.types t) ≡ b
  tested b h = ap (passing takes_const) (sym (here env.types t known)) ∙ h

  -- const of a const is one const, and none stands on a reference or a function
  pub const_kept : ((u n : ℕ) → type_at env.types t ≡ ty.Array u n → ⊥) → passes takes_const env.types.types t ≡ false → shut.const_of t env ≡ Made t env
  const_kept no_array untaken = const-step ∙ by (type_at env.types t) refl (tested false untaken)
    where
      by : (v : Ty) → type_at env.types t ≡ v → takes_const v ≡ false → made.const_step (λ u. of_type (gives u) made.const_step env.types u) v env ≡ Made t env
      by (ty.Ref u) e h = interned_again env t (ty.Ref u) table (here env.types t known ∙ ap Some e)
      by (ty.Fun f) e h = interned_again env t (ty.Fun f) table (here env.types t known ∙ ap Some e)
      by (ty.Const u) e h = interned_again env t (ty.Const u) table (here env.types t known ∙ ap Some e)
      by (ty.Array u n) e h = absurd (no_array u n e)
      by ty.Void e h = absurd (true≢false h)
      by (ty.Int k) e h = absurd (true≢false h)
      by (ty.Enum n) e h = absurd (true≢false h)
      by (ty.Class c) e h = absurd (true≢false h)
      by (ty.Ptr u) e h = absurd (true≢false h)
      by (ty.MemData c u) e h = absurd (true≢false h)
      by (ty.MemFun c f) e h = absurd (true≢false h)

  then_const : (v : Ty) (r : Answer ℕ) → type_at env.types t ≡ v → shut.intern (ty.Const t) env ≡ r → onward (made.intern v env) (λ w. made.intern (ty.Const w)) ≡ r
  unfolding shut.intern
  then_const v r e h = ap (λ a. onward a (λ w. made.intern (ty.Const w))) (interned_again env t v table (here env.types t known ∙ ap Some e)) ∙ h

  -- on any other type it stands
  pub const_stands : (r : Answer ℕ) → passes takes_const env.types.types t ≡ true → shut.intern (ty.Const t) env ≡ r → shut.const_of t env ≡ r
  const_stands r taken made_const = const-step ∙ by (type_at env.types t) refl (tested true taken)
    where
      by : (v : Ty) → type_at env.types t ≡ v → takes_const v ≡ true → made.const_step (λ u. of_type (gives u) made.const_step env.types u) v env ≡ r
      by ty.Void e h = then_const ty.Void r e made_const
      by (ty.Int k) e h = then_const (ty.Int k) r e made_const
      by (ty.Enum n) e h = then_const (ty.Enum n) r e made_const
      by (ty.Class c) e h = then_const (ty.Class c) r e made_const
      by (ty.Ptr u) e h = then_const (ty.Ptr u) r e made_const
      by (ty.MemData c u) e h = then_const (ty.MemData c u) r e made_const
      by (ty.MemFun c f) e h = then_const (ty.MemFun c f) r e made_const
      by (ty.Ref u) e h = absurd (true≢false (sym h))
      by (ty.Fun f) e h = absurd (true≢false (sym h))
      by (ty.Const u) e h = absurd (true≢false (sym h))
      by (ty.Array u n) e h = absurd (true≢false (sym h))

  -- of an array it is that of its elements
  pub const_of_array : (u n w : ℕ) (next : Env) (r : Answer ℕ) → type_at env.types t ≡ ty.Array u n → shut.const_of u env ≡ Made w next → shut.array_of w n next ≡ r → shut.const_of t env ≡ r
  unfolding shut.const_of shut.array_of
  const_of_array u n w next r e inside around =
      const-step ∙ ap (λ v. made.const_step (λ u. of_type (gives u) made.const_step env.types u) v env) e ∙ ap (λ a. onward a (λ x. made.array_of x n)) inside ∙ around

  pub element_below : (u n : ℕ) → type_at env.types t ≡ ty.Array u n → u < t
  element_below u n e = subst (NamesBelow t) e (below_at env.types t (type_at env.types t) table (here env.types t known))
