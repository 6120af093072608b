-- The form of `main`, and definitions in the file itself.
use Rattle.std.proofs.Common.{◌≡◌, ℕ, ◌==◌, Bool, true, false, not, ◌&&◌, ◌||◌, length, Option, None, Some, refl, sym, ap, ◌∙◌}
use Rattle.std.specs.Prelude.{bytes_eq}
use Rattle.std.specs.List.{list_any}
use Rattle.cf_types.specs.declared.ty.Fun.{Fun}
use Rattle.cf_types.specs.Table.{Table}
use Rattle.cf_elab.specs.Answer.{Answer, Made, Refused, need}
use Rattle.cf_elab.specs.Env.{Env, FunctionEntry}
use Rattle.cf_elab.specs.Functions.{Says, says_internal, is_called_main}
use Rattle.cf_elab_functions.specs.Shut as shut

abbrev by_fun : ℕ → Says → Option Fun → Bool
by_fun int_type d None = false
by_fun int_type d (Some f) = (f.result == int_type) && (length f.params == 0) && not (says_internal d)

module _ (types : Table) (int_type : ℕ) (d : Says) where
  form_is : shut.main_form types int_type d ≡ by_fun int_type d (shut.fun_at types d.type)
  unfolding shut.main_form shut.fun_at
  form_is = refl

  pub some_form : (f : Fun) (b i : Bool) → Some f ≡ shut.fun_at types d.type → i ≡ says_internal d → b ≡ ((f.result == int_type) && (length f.params == 0) && not i) → b ≡ shut.main_form types int_type d
  some_form f b i is internal h = h ∙ ap (λ i. (f.result == int_type) && (length f.params == 0) && not i) internal ∙ ap (by_fun int_type d) is ∙ sym form_is

  pub no_form : None ≡ shut.fun_at types d.type → false ≡ shut.main_form types int_type d
  no_form is = ap (by_fun int_type d) is ∙ sym form_is

module _ (int_type : ℕ) (d : Says) (env : Env) where
  abbrev asked : Bool → Bool → Answer (Unit {0})
  asked main form = need (not main || form) 11 d.at env

  pub other_name : is_called_main d.called ≡ false → shut.need_main int_type d env ≡ Made tt env
  unfolding shut.need_main shut.main_form
  other_name h = ap (λ m. asked m (shut.main_form env.types int_type d)) h

  pub main_fine : is_called_main d.called ≡ true → shut.main_form env.types int_type d ≡ true → shut.need_main int_type d env ≡ Made tt env
  unfolding shut.need_main shut.main_form
  main_fine h f = ap (λ m. asked m (shut.main_form env.types int_type d)) h ∙ ap (asked true) f

  pub main_wrong : is_called_main d.called ≡ true → shut.main_form env.types int_type d ≡ false → shut.need_main int_type d env ≡ Refused 11 d.at
  unfolding shut.need_main shut.main_form
  main_wrong h f = ap (λ m. asked m (shut.main_form env.types int_type d)) h ∙ ap (asked true) f

module _ (d : Says) (env : Env) where
  abbrev found : Bool → Bool → Bool → Bool → Answer (Unit {0})
  found elsewhere defines initialised among = need (elsewhere || defines || initialised || among) 48 d.at env

  abbrev among : Bool
  among = list_any (bytes_eq d.name) env.defines

  definition_is : shut.need_definition d env ≡ found env.extent.elsewhere d.defines d.is_initialised among
  unfolding shut.need_definition
  definition_is = refl

  pub elsewhere_fine : env.extent.elsewhere ≡ true → shut.need_definition d env ≡ Made tt env
  elsewhere_fine h = definition_is ∙ ap (λ e. found e d.defines d.is_initialised among) h

  here : env.extent.elsewhere ≡ false → shut.need_definition d env ≡ found false d.defines d.is_initialised among
  here e = definition_is ∙ ap (λ e. found e d.defines d.is_initialised among) e

  pub defined_fine : env.extent.elsewhere ≡ false → d.defines ≡ true → shut.need_definition d env ≡ Made tt env
  defined_fine e h = here e ∙ ap (λ b. found false b d.is_initialised among) h

  declared : env.extent.elsewhere ≡ false → d.defines ≡ false → shut.need_definition d env ≡ found false false d.is_initialised among
  declared e h = here e ∙ ap (λ b. found false b d.is_initialised among) h

  pub initialised_fine : env.extent.elsewhere ≡ false → d.defines ≡ false → d.is_initialised ≡ true → shut.need_definition d env ≡ Made tt env
  initialised_fine e h i = declared e h ∙ ap (λ b. found false false b among) i

  pub among_fine : env.extent.elsewhere ≡ false → d.defines ≡ false → d.is_initialised ≡ false → list_any (bytes_eq d.name) env.defines ≡ true → shut.need_definition d env ≡ Made tt env
  among_fine e h i a = declared e h ∙ ap (λ b. found false false b among) i ∙ ap (found false false false) a

  pub not_defined : env.extent.elsewhere ≡ false → d.defines ≡ false → d.is_initialised ≡ false → list_any (bytes_eq d.name) env.defines ≡ false → shut.need_definition d env ≡ Refused 48 d.at
  not_defined e h i a = declared e h ∙ ap (λ b. found false false b among) i ∙ ap (found false false false) a

  -- ---- the only one of its name

  abbrev alone : Bool → Bool → Answer (Unit {0})
  alone overloads named = need (overloads || not named) 48 d.at env

  abbrev named : Bool
  named = list_any (λ (f : FunctionEntry). bytes_eq f.name d.name) env.entries

  pub overloaded : env.extent.overloads ≡ true → shut.need_single d env ≡ Made tt env
  unfolding shut.need_single
  overloaded h = ap (λ o. alone o named) h

  pub only_one : env.extent.overloads ≡ false → list_any (λ (f : FunctionEntry). bytes_eq f.name d.name) env.entries ≡ false → shut.need_single d env ≡ Made tt env
  unfolding shut.need_single
  only_one o h = ap (λ o. alone o named) o ∙ ap (alone false) h

  pub another_one : env.extent.overloads ≡ false → list_any (λ (f : FunctionEntry). bytes_eq f.name d.name) env.entries ≡ true → shut.need_single d env ≡ Refused 48 d.at
  unfolding shut.need_single
  another_one o h = ap (λ o. alone o named) o ∙ ap (alone false) h

pub ruleset main_laws = (other_name, main_fine, main_wrong)

pub ruleset form_laws = (some_form, no_form)

pub ruleset definition_laws = (elsewhere_fine, defined_fine, initialised_fine, among_fine, not_defined)

pub ruleset single_laws = (overloaded, only_one, another_one)
