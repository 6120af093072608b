-- Parameters without default arguments don't matter to the declaration of their function.
use Rattle.std.proofs.Common.{◌≡◌, ℕ, zero, suc, ◌-◌, Bool, true, false, not, ◌||◌, List, [], ◌∷◌, ◌++◌, length, Option, None, Some, slice_get, All, refl, sym, ap, ◌∙◌}
use Rattle.std.proofs.lemmas.List.Elements.{All-head, All-tail}
use Rattle.cf_classes.specs.TypeTree.{params_of}
use Rattle.cf_elab.specs.Answer.{Answer, Elab, Made, onward, need, none_at}
use Rattle.cf_elab.specs.Arguments.{fun_at}
use Rattle.cf_elab.specs.Env.{Env, FunctionEntry}
use Rattle.cf_elab.specs.Functions as functions
use Rattle.cf_elab.specs.Functions.{Says, default_fault, new_defaults, repeat_none, operator_form, is_called_main, main_form, is_function_set}
use Rattle.cf_elab.specs.Names.{declared_here}
use Rattle.cf_elab.specs.Shape.{Parameter}
use Rattle.cf_elab_env.specs.Holds.{IsEnv, IsEntry}
use Rattle.cf_elab_env.proofs.Sorts.{at_place}
use Rattle.cf_elab_functions.specs.Seen.{NoDefault}
use Rattle.cf_elab_functions.specs.Shut as shut
use Rattle.cf_elab_functions.proofs.NewLaws.{new_from, new_is}
use Rattle.cf_elab_functions.proofs.AgainLaws.{known_from, known_is}

no_fault : (ps : List Parameter) (n : ℕ) → All NoDefault ps → default_fault ps (repeat_none n ++ []) ≡ None
no_fault [] n all = refl
no_fault (p ∷ ps) zero all = refl
no_fault (p ∷ ps) (suc n) all = rw (All-head NoDefault p ps all) (no_fault ps n (All-tail NoDefault p ps all))

nothing_new : (ts : List ℕ) (ps : List Parameter) (n : ℕ) (env : Env) → All NoDefault ps → new_defaults ts ps (repeat_none n ++ []) env ≡ Made [] env
nothing_new [] ps n env all = refl
nothing_new (t ∷ ts) [] n env all = refl
nothing_new (t ∷ ts) (p ∷ ps) zero env all = refl
nothing_new (t ∷ ts) (p ∷ ps) (suc n) env all = rw (All-head NoDefault p ps all, nothing_new ts ps n env (All-tail NoDefault p ps all)) refl

module _ (env : Env) (e : IsEnv env) (d : Says) (all : All NoDefault d.parameters) where
  abbrev bare : Says
  bare = record d { parameters = [] }

  abbrev types_of : List ℕ
  types_of = params_of (fun_at env.types d.type)

  no_defaults_given : functions.defaults_of d [] env ≡ Made [] env
  no_defaults_given =
      ap (λ o. onward (none_at o 27 env) (λ _ f. new_defaults types_of d.parameters (repeat_none (length types_of - 0) ++ []) f)) (no_fault d.parameters (length types_of - 0) all)
      ∙ nothing_new types_of d.parameters (length types_of - 0) env all

  new_same : shut.new_entry d env ≡ shut.new_entry bare env
  unfolding shut.need_single shut.need_definition shut.said_link
  new_same = new_from env e d no_defaults_given ∙ sym (new_is env bare refl e)

  -- as the definition has it
  abbrev by_entry : Says → ℕ → Option FunctionEntry → Elab ℕ
  by_entry d n None = functions.new_entry d
  by_entry d n (Some f) = functions.known_entry d n f

  known_same : (n : ℕ) (o : Option FunctionEntry) → slice_get env.entries n ≡ o → shut.known_at d n env ≡ shut.known_at bare n env
  unfolding shut.known_at shut.new_entry shut.fits_entry
  known_same n (Some f) has =
      let entry : IsEntry env.types f = at_place (λ f. IsEntry env.types f) env.entries n f e.entries has in
      known_from env e d n f has (ap (λ ds. functions.defaults_of d ds env) entry.no_defaults ∙ no_defaults_given) ∙ sym (known_is env e bare refl n f has)
  known_same n None has = ap (λ o. by_entry d n o env) has ∙ new_same ∙ sym (ap (λ o. by_entry bare n o env) has)

  entry_same : (o : Option ℕ) → functions.entry_or_new d o env ≡ functions.entry_or_new bare o env
  unfolding shut.known_at shut.new_entry
  entry_same None = new_same
  entry_same (Some n) = known_same n (slice_get env.entries n) refl

  pub without : (int_type : ℕ) → shut.declare_function int_type d env ≡ shut.declare_function int_type (record d { parameters = [] }) env
  unfolding shut.declare_function
  without int_type =
      by (not (is_called_main d.called) || main_form env.types int_type d) (operator_form env.types int_type d) (is_function_set env (declared_here env d.name))
    where
      behind : Says → Env → Answer ℕ
      behind s g = onward (functions.entry_or_new s (functions.entry_of env s) g) (λ n h. onward (functions.entity_joined s n (declared_here env s.name) h) (λ _ i. Made n i))

      by : (a b c : Bool) → onward (need a 11 d.at env) (λ _ f. onward (need b 47 d.at f) (λ _ g. onward (need c 8 d.at g) (λ _ h. behind d h)))
          ≡ onward (need a 11 d.at env) (λ _ f. onward (need b 47 d.at f) (λ _ g. onward (need c 8 d.at g) (λ _ h. behind bare h)))
      by true true true = ap (λ a. onward a (λ n h. onward (functions.entity_joined d n (declared_here env d.name) h) (λ _ i. Made n i))) (entry_same (functions.entry_of env d))
      by true true false = refl
      by true false c = refl
      by false b c = refl
