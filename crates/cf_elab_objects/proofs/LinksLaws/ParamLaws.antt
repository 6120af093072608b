-- The parameters of function types.
use Rattle.std.proofs.Common.{◌≡◌, ℕ, ◌<◌, List, [], length, Option, Some, slice_get, All, refl, sym, ap, subst, ◌∙◌, arith}
use Rattle.std.proofs.lemmas.List.Elements.{All-tail}
use Rattle.cf_types.specs.declared.ty.Ty.{Ty}
use Rattle.cf_types.specs.declared.ty.Ty.TheVariants as ty
use Rattle.cf_types.specs.declared.ty.Fun.{Fun}
use Rattle.cf_types.specs.Table.{Names, parts_of_fun, fun_parts}
use Rattle.cf_convert.specs.Constness.{type_at}
use Rattle.cf_classes.specs.TypeTree.{fun_of, params_of}
use Rattle.cf_elab.specs.Env.{Env}
use Rattle.cf_elab_env.specs.Holds.{IsEnv, IsType}
use Rattle.cf_elab_env.proofs.Growth.{here}
use Rattle.cf_elab_objects.specs.Links.Shut as shut

module _ (env : Env) (t : ℕ) (e : IsEnv env) (known : IsType env.types t) where
  abbrev at : Option Ty → List ℕ
  at o = params_of (fun_of env.types o)

  found : (v : Ty) → type_at env.types t ≡ v → slice_get env.types.types t ≡ Some v
  found v is = here env.types t known ∙ ap Some is

  pub params_are : (f : ℕ) (fun : Fun) (ps : List ℕ) → type_at env.types t ≡ ty.Fun f → slice_get env.types.funs f ≡ Some fun → ps ≡ fun.params → ps ≡ shut.params_at env.types t
  unfolding shut.params_at
  params_are f fun ps is has p = p ∙ sym (ap params_of has) ∙ sym (ap at (found (ty.Fun f) is))

  pub no_params : (ps : List ℕ) → ((f : ℕ) → type_at env.types t ≡ ty.Fun f → ⊥) → ps ≡ [] → ps ≡ shut.params_at env.types t
  unfolding shut.params_at
  no_params ps none p = p ∙ by (type_at env.types t) refl
    where
      by : (v : Ty) → type_at env.types t ≡ v → [] ≡ params_of (fun_of env.types (slice_get env.types.types t))
      by (ty.Fun f) is = absurd (none f is)
      by ty.Void is = sym (ap at (found ty.Void is))
      by (ty.Int k) is = sym (ap at (found (ty.Int k) is))
      by (ty.Enum n) is = sym (ap at (found (ty.Enum n) is))
      by (ty.Class c) is = sym (ap at (found (ty.Class c) is))
      by (ty.Ptr u) is = sym (ap at (found (ty.Ptr u) is))
      by (ty.Ref u) is = sym (ap at (found (ty.Ref u) is))
      by (ty.Array u n) is = sym (ap at (found (ty.Array u n) is))
      by (ty.MemData c u) is = sym (ap at (found (ty.MemData c u) is))
      by (ty.MemFun c f) is = sym (ap at (found (ty.MemFun c f) is))
      by (ty.Const u) is = sym (ap at (found (ty.Const u) is))

  -- they, and the result, stand before the function type
  pub parts_before : (f : ℕ) (fun : Fun) → type_at env.types t ≡ ty.Fun f → slice_get env.types.funs f ≡ Some fun → All (λ p. p < t) (fun_parts fun)
  parts_before f fun is has =
      let names : Names env.types.funs t (length env.types.funs) (ty.Fun f) = e.table.earlier t (ty.Fun f) (found (ty.Fun f) is) in
      let P : List ℕ → Type 0 = λ ps. All (λ p. p < t) ps in
      subst P (ap parts_of_fun has) names.parts_known

  pub params_before : (f : ℕ) (fun : Fun) (ps : List ℕ) → type_at env.types t ≡ ty.Fun f → slice_get env.types.funs f ≡ Some fun → ps ≡ fun.params → All (λ p. p < t) ps
  params_before f fun ps is has p =
      let P : List ℕ → Type 0 = λ ps. All (λ p. p < t) ps in
      subst P (sym p) (All-tail (λ p. p < t) fun.result fun.params (parts_before f fun is has))

  pub result_before : (f : ℕ) (fun : Fun) → type_at env.types t ≡ ty.Fun f → slice_get env.types.funs f ≡ Some fun → fun.result < t
  result_before f fun is has = parts_before f fun is has 0 0 (omega arith)

pub none_before : (ps : List ℕ) (t : ℕ) → ps ≡ [] → All (λ p. p < t) ps
none_before ps t e = λ k d h. absurd (omega (arith, ap length e))

pub ruleset param_laws = (params_are, no_params, params_before, none_before)
