-- Functions by their name.
use Rattle.std.proofs.Common.{◌≡◌, ℕ, Bool, true, false, not, List, Some, slice_get, ◌≤◌, length, sym, ap, subst, ◌∙◌}
use Rattle.std.proofs.lemmas.Option.{slice_get_past}
use Rattle.cf_types.specs.Table.{Table}
use Rattle.cf_elab.specs.Answer.{Answer, Made, Refused, onward, need}
use Rattle.cf_elab.specs.Env.{Env, FunctionEntry}
use Rattle.cf_elab.specs.Names.{some_main}
use Rattle.cf_elab.specs.Operand as operand
use Rattle.cf_elab.specs.Operand.{Value, Operand, functions, function_value}
use Rattle.cf_elab_env.specs.Holds.{Known, IsEntry}
use Rattle.cf_elab_operand.specs.Shut as shut

module _ (at : ℕ) (fs : List ℕ) (env : Env) where
  abbrev by_main : Bool → Answer Operand
  by_main b = onward (need (not b) 11 at env) (λ _ env. Made (functions at fs) env)

  pub main_named : some_main env fs ≡ true → shut.functions_of at fs env ≡ Refused 11 at
  unfolding shut.functions_of
  main_named h = ap by_main h

  pub functions_named : some_main env fs ≡ false → shut.functions_of at fs env ≡ Made (functions at fs) env
  unfolding shut.functions_of
  functions_named h = ap by_main h

module _ (at f : ℕ) (env : Env) where
  pub function_is : (e : FunctionEntry) (v : Value) → slice_get env.entries f ≡ Some e → v ≡ function_value at e → shut.one_function at f env ≡ Made v env
  unfolding shut.one_function
  function_is e v found is = ap (λ o. operand.one_function at o env) found ∙ ap (λ v. Made v env) (sym is)

  pub no_function : length env.entries ≤ f → shut.one_function at f env ≡ Refused 10 at
  unfolding shut.one_function
  no_function past = ap (λ o. operand.one_function at o env) (slice_get_past env.entries f past)

pub place_known : (types : Table) (at : ℕ) (e : FunctionEntry) (v : Value) → IsEntry types e → v ≡ function_value at e → Known types v
place_known types at e v known is =
    let k : Known types (function_value at e) = record { typed = known.typed; number = tt } in
    subst (Known types) (sym is) k

pub ruleset named_laws = (main_named, functions_named)

pub ruleset one_laws = (function_is, no_function)
