-- Types of functions are compared by their parameters and results, which stand before them.
use Rattle.std.proofs.Common.{◌≡◌, ℕ, suc, ◌<◌, Bool, true, false, ◌&&◌, List, [], ◌∷◌, length, get_or, Some, slice_get, All, refl, ap, sym, subst, ◌∙◌, arith}
use Rattle.cf_types.specs.Table.{Table, parts_of_fun, fun_parts}
use Rattle.cf_types.specs.declared.ty.Fun.{Fun}
use Rattle.cf_elab.specs.Env.{Env}
use Rattle.cf_elab_cast.specs.Same.{same, same_params, same_funs, same_functions}

lengths_differ : (env : Env) (ps qs : List ℕ) → (length ps ≡ length qs → ⊥) → same_params env ps qs ≡ false
lengths_differ env [] [] h = absurd (h refl)
lengths_differ env [] (q ∷ qs) h = refl
lengths_differ env (p ∷ ps) [] h = refl
lengths_differ env (p ∷ ps) (q ∷ qs) h = ap (λ b. same env p q && b) (lengths_differ env ps qs (λ e. h (ap suc e))) ∙ and-false (same env p q)
  where
    and-false : (b : Bool) → b && false ≡ false
    and-false true = refl
    and-false false = refl

module _ (env : Env) (types : Table) (f g : ℕ) (x y : Fun) (is : types ≡ env.types) (first : slice_get types.funs f ≡ Some x) (second : slice_get types.funs g ≡ Some y) where
  pub functions_are : same_functions env f g ≡ same_params env x.params y.params && same env x.result y.result
  functions_are =
      ap (λ (t : Table). same_funs env (slice_get t.funs f) (slice_get t.funs g)) (sym is)
      ∙ ap (λ o. same_funs env o (slice_get types.funs g)) first ∙ ap (same_funs env (Some x)) second

  pub functions_differ : (length x.params ≡ length y.params → ⊥) → same_functions env f g ≡ false
  functions_differ h = functions_are ∙ ap (λ b. b && same env x.result y.result) (lengths_differ env x.params y.params h)

-- a parameter stands before its function's type
pub param_before : (env : Env) (types : Table) (f t i p : ℕ) (x : Fun) → types ≡ env.types → slice_get types.funs f ≡ Some x → All (λ p. p < t) (parts_of_fun (slice_get env.types.funs f))
    → i < length x.params → p ≡ get_or x.params i p → p < t
param_before env types f t i p x is found all within here =
    let parts : All (λ p. p < t) (fun_parts x) = subst (λ o. All (λ p. p < t) (parts_of_fun o)) (ap (λ (types : Table). slice_get types.funs f) (sym is) ∙ found) all in
    let at : get_or (fun_parts x) (suc i) p < t = parts (suc i) p (omega arith) in
    subst (λ n. n < t) (sym here) at
