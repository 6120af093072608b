-- Types of functions are compared by their parameters and results, which stand before them.
use Rattle.std.proofs.Common.{◌≡◌, ℕ, suc, ◌<◌, Bool, true, false, ◌&&◌, List, [], ◌∷◌, length, get_or, Some, slice_get, All, refl, ap, sym, subst, ◌∙◌, arith}
use Rattle.cf_types.specs.Table.{parts_of_fun, fun_parts}
use Rattle.cf_types.specs.declared.ty.Fun.{Fun}
use Rattle.cf_core.specs.FromTypes.{Tables}
use Rattle.cf_lower_types.specs.Bare.{NamesFun}
use Rattle.cf_lower_same.specs.Alike.{same, same_params, same_funs, same_functions}

lengths_differ : (tables : Tables) (ps qs : List ℕ) → (length ps ≡ length qs → ⊥) → same_params tables ps qs ≡ false
lengths_differ tables [] [] h = absurd (h refl)
lengths_differ tables [] (q ∷ qs) h = refl
lengths_differ tables (p ∷ ps) [] h = refl
lengths_differ tables (p ∷ ps) (q ∷ qs) h = ap (λ b. same tables p q && b) (lengths_differ tables ps qs (λ e. h (ap suc e))) ∙ and_false (same tables p q)
  where
    and_false : (b : Bool) → b && false ≡ false
    and_false true = refl
    and_false false = refl

module _ (tables : Tables) (f g : ℕ) (x y : Fun) (first : slice_get tables.types.funs f ≡ Some x) (second : slice_get tables.types.funs g ≡ Some y) where
  pub functions_are : same_functions tables f g ≡ same_params tables x.params y.params && same tables x.result y.result
  functions_are = ap (λ o. same_funs tables o (slice_get tables.types.funs g)) first ∙ ap (same_funs tables (Some x)) second

  pub functions_differ : (length x.params ≡ length y.params → ⊥) → same_functions tables f g ≡ false
  functions_differ h = functions_are ∙ ap (λ b. b && same tables x.result y.result) (lengths_differ tables x.params y.params h)

module _ (tables : Tables) (f t : ℕ) (x : Fun) (found : slice_get tables.types.funs f ≡ Some x) (names : NamesFun tables t f) where
  parts : All (λ p. p < t) (fun_parts x)
  parts = subst (λ o. All (λ p. p < t) (parts_of_fun o)) found names.parts

  -- a parameter stands before its function's type
  pub param_before : (i p : ℕ) → i < length x.params → p ≡ get_or x.params i p → p < t
  param_before i p within here =
      let at : get_or (fun_parts x) (suc i) p < t = parts (suc i) p (omega arith) in
      subst (λ n. n < t) (sym here) at

  -- and so does its result
  pub result_before : x.result < t
  result_before = parts 0 0 (omega arith)
