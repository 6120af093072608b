-- The function type that a type is.
use Rattle.std.proofs.Common.{◌≡◌, ℕ, List, [], None, Some, slice_get, refl, sym, ap, ◌∙◌}
use Rattle.cf_types.specs.declared.ty.Ty.{Ty}
use Rattle.cf_types.specs.declared.ty.Ty.TheVariants as ty
use Rattle.cf_types.specs.declared.ty.Fun.{Fun}
use Rattle.cf_types.specs.Table.{Table}
use Rattle.cf_convert.specs.Constness.{type_at, bare}
use Rattle.cf_classes.specs.TypeTree.{fun_of, params_of}
use Rattle.cf_elab.specs.Arguments.{result_of}
use Rattle.cf_elab_env.specs.Holds.{IsType}
use Rattle.cf_elab_env.proofs.Growth.{here}
use Rattle.cf_elab_functions.specs.Shut as shut

module _ (types : Table) (t b : ℕ) (bare_is : b ≡ bare types t) (known : IsType types b) where
  opened : (v : Ty) → type_at types b ≡ v → fun_of types (Some v) ≡ shut.fun_at types t
  unfolding shut.fun_at
  opened v is = sym (ap (λ b. fun_of types (slice_get types.types b)) (sym bare_is) ∙ ap (fun_of types) (here types b known ∙ ap Some is))

  pub function_at : (f : ℕ) (fun : Fun) → type_at types b ≡ ty.Fun f → slice_get types.funs f ≡ Some fun → Some fun ≡ shut.fun_at types t
  function_at f fun is has = sym has ∙ opened (ty.Fun f) is

  pub other_at : ((f : ℕ) → type_at types b ≡ ty.Fun f → ⊥) → None ≡ shut.fun_at types t
  other_at other = by (type_at types b) refl
    where
      by : (v : Ty) → type_at types b ≡ v → None ≡ shut.fun_at types t
      by (ty.Fun f) is = absurd (other f is)
      by ty.Void is = opened ty.Void is
      by (ty.Int k) is = opened (ty.Int k) is
      by (ty.Enum n) is = opened (ty.Enum n) is
      by (ty.Class c) is = opened (ty.Class c) is
      by (ty.Ptr u) is = opened (ty.Ptr u) is
      by (ty.Ref u) is = opened (ty.Ref u) is
      by (ty.Array u n) is = opened (ty.Array u n) is
      by (ty.MemData c u) is = opened (ty.MemData c u) is
      by (ty.MemFun c f) is = opened (ty.MemFun c f) is
      by (ty.Const u) is = opened (ty.Const u) is

module _ (types : Table) (t : ℕ) where
  pub some_params : (f : Fun) (ps : List ℕ) → Some f ≡ shut.fun_at types t → ps ≡ f.params → ps ≡ shut.params_of types t
  unfolding shut.fun_at shut.params_of
  some_params f ps is h = h ∙ ap params_of is

  pub no_params : (ps : List ℕ) → None ≡ shut.fun_at types t → ps ≡ [] → ps ≡ shut.params_of types t
  unfolding shut.fun_at shut.params_of
  no_params ps is h = h ∙ ap params_of is

  pub some_result : (f : Fun) (r : ℕ) → Some f ≡ shut.fun_at types t → r ≡ f.result → r ≡ shut.result_of types t
  unfolding shut.fun_at shut.result_of
  some_result f r is h = h ∙ ap result_of is

  pub no_result : None ≡ shut.fun_at types t → 0 ≡ shut.result_of types t
  unfolding shut.fun_at shut.result_of
  no_result is = ap result_of is

pub ruleset params_laws = (some_params, no_params)

pub ruleset result_laws = (some_result, no_result)
