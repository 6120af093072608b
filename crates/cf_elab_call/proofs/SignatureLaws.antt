-- The parameters and the result of a function type.
use Rattle.std.proofs.Common.{◌≡◌, ℕ, List, [], None, Some, slice_get, All, refl, sym, ap, subst, ◌∙◌, arith}
use Rattle.std.proofs.lemmas.List.Elements.{All-head, All-tail}
use Rattle.cf_types.specs.declared.ty.Ty.{Ty}
use Rattle.cf_types.specs.declared.ty.Ty.TheVariants as ty
use Rattle.cf_types.specs.declared.ty.Fun.{Fun}
use Rattle.cf_types.specs.Table.{Table, IsTable}
use Rattle.cf_convert.specs.Constness.{type_at, bare}
use Rattle.cf_classes.specs.TypeTree.{fun_of, params_of}
use Rattle.cf_elab.specs.Arguments.{fun_at, result_of}
use Rattle.cf_elab.specs.Operand.{sort_of, ty_sort, pointer_sort, function_sort}
use Rattle.cf_elab_env.specs.Holds.{IsType}
use Rattle.cf_elab_env.specs.Seen.{sort_seen}
use Rattle.cf_elab_env.specs.declared.sort.Sort.{Sort as FoundSort}
use Rattle.cf_elab_env.specs.declared.sort.Sort.TheVariants as sort
use Rattle.cf_elab_env.proofs.Growth.{bare-known, here}
use Rattle.cf_elab_call.specs.Signatures.{params_at, result_at}

no_function : (t f : ℕ) (w : Ty) → pointer_sort t w ≡ function_sort f → ⊥
no_function t f ty.Void e = cc
no_function t f (ty.Fun g) e = cc
no_function t f other e = cc

function_type : (types : Table) (f : ℕ) (w : Ty) → ty_sort types w ≡ function_sort f → w ≡ ty.Fun f
function_type types f (ty.Fun g) e = let same : g ≡ f = cc in ap ty.Fun same
function_type types f (ty.Ptr t) e = absurd (no_function t f (type_at types (bare types t)) e)
function_type types f other e = cc

module _ (types : Table) (t : ℕ) (table : IsTable types) (typed : IsType types t) (s : FoundSort) (found : sort_seen s ≡ sort_of types t) where
  at_bare : fun_at types t ≡ fun_of types (Some (type_at types (bare types t)))
  at_bare = ap (fun_of types) (here types (bare types t) (bare-known types t table typed))

  module _ (f : ℕ) (fun : Fun) (is : s ≡ sort.Function f) (entry : slice_get types.funs f ≡ Some fun) where
    is_function : fun_at types t ≡ Some fun
    is_function = at_bare ∙ ap (λ w. fun_of types (Some w)) (function_type types f (type_at types (bare types t)) (sym found ∙ ap sort_seen is)) ∙ entry

    pub function_params : (ps : List ℕ) → ps ≡ fun.params → ps ≡ params_at types t
    unfolding params_at
    function_params ps e = e ∙ ap params_of (sym is_function)

    pub function_result : (r : ℕ) → r ≡ fun.result → r ≡ result_at types t
    unfolding result_at
    function_result r e = e ∙ ap result_of (sym is_function)

    pub function_params_known : (ps : List ℕ) → ps ≡ fun.params → All (λ t. IsType types t) ps
    function_params_known ps e = subst (All (λ t. IsType types t)) (sym e) (All-tail (λ t. IsType types t) fun.result fun.params (table.known f fun entry))

    pub function_result_known : (r : ℕ) → r ≡ fun.result → IsType types r
    function_result_known r e = subst (IsType types) (sym e) (All-head (λ t. IsType types t) fun.result fun.params (table.known f fun entry))

  module _ (none : (f : ℕ) → s ≡ sort.Function f → ⊥) where
    found_function : (s : FoundSort) (f : ℕ) → sort_seen s ≡ function_sort f → s ≡ sort.Function f
    found_function (sort.Function g) f e = let same : g ≡ f = cc in ap sort.Function same
    found_function other f e = cc

    no_fun : fun_at types t ≡ None
    no_fun = at_bare ∙ by (type_at types (bare types t)) found
      where
        by : (w : Ty) → sort_seen s ≡ ty_sort types w → fun_of types (Some w) ≡ None
        by (ty.Fun f) e = absurd (none f (found_function s f e))
        by other e = refl

    pub no_params : (ps : List ℕ) → ps ≡ [] → ps ≡ params_at types t
    unfolding params_at
    no_params ps e = e ∙ ap params_of (sym no_fun)

    pub no_result : (r : ℕ) → r ≡ 0 → r ≡ result_at types t
    unfolding result_at
    no_result r e = e ∙ ap result_of (sym no_fun)

pub none_known : (types : Table) (ps : List ℕ) → ps ≡ [] → All (λ t. IsType types t) ps
none_known types ps e = subst (All (λ t. IsType types t)) (sym e) (λ i d w. absurd (omega arith))

pub first_known : (types : Table) (t r : ℕ) → IsType types t → r ≡ 0 → IsType types r
first_known types t r typed e = omega arith

pub ruleset signature_laws = (function_params, function_result, function_params_known, function_result_known, no_params, no_result, none_known, first_known)
