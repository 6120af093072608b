-- A function that is known and said again.
use Rattle.std.proofs.Common.{◌≡◌, ℕ, zero, suc, ◌==◌, ◌<◌, Bool, true, false, not, ◌||◌, List, [], Option, None, Some, slice_get, length, ◌∷◌, refl, sym, ap, ◌∙◌, arith}
use Rattle.std.specs.Option.{option_map}
use Rattle.cf_classes.specs.TypeTree.{params_of}
use Rattle.cf_elab.specs.Answer.{Answer, Elab, Made, Refused, onward, need, none_at}
use Rattle.cf_elab.specs.Arguments.{fun_at, result_of}
use Rattle.cf_elab.specs.Env.{Env, Default, FunctionEntry}
use Rattle.cf_elab.specs.Functions as functions
use Rattle.cf_elab.specs.Functions.{Says, default_fault, earlier_defaults, new_defaults, says_internal, is_library, parameters_complete, set_entry}
use Rattle.cf_elab.specs.Names.{replaced}
use Rattle.cf_elab.specs.Shape.{Parameter}
use Rattle.cf_elab_env.specs.Entries.{HasName}
use Rattle.cf_elab_env.specs.Holds.{IsEnv}
use Rattle.cf_elab_env.specs.Shut as made
use Rattle.cf_elab_functions.specs.Shut as shut
use Rattle.cf_elab_functions.proofs.NewLaws.{no_defaults, parameters_fine}

pub is_so : (b : Bool) (rule at : ℕ) (env : Env) → b ≡ true → shut.need_that b rule at env ≡ Made tt env
unfolding shut.need_that
is_so b rule at env h = ap (λ b. need b rule at env) h

pub is_not_so : (b : Bool) (rule at : ℕ) (env : Env) → b ≡ false → shut.need_that b rule at env ≡ Refused rule at
unfolding shut.need_that
is_not_so b rule at env h = ap (λ b. need b rule at env) h

pub fits_is : (d : Says) (f : FunctionEntry) (env : Env)
    → shut.fits_entry d f env
    ≡ onward (shut.need_that (shut.result_of env.types f.type == shut.result_of env.types d.type) 8 d.at env) (λ _ e.
    onward (shut.need_that (not (says_internal d) || f.is_internal) 9 d.at e) (λ _ g. shut.need_that (not d.defines || not (f.is_defined || is_library f.link)) 8 d.at g))
unfolding shut.fits_entry shut.need_that shut.result_of
fits_is d f env = refl

module _ (env : Env) (e : IsEnv env) (d : Says) (n : ℕ) (f : FunctionEntry) (has : slice_get env.entries n ≡ Some f) where
  abbrev said : FunctionEntry
  said = record f { defaults = []; is_defined = f.is_defined || d.defines }

  -- as the definition has it
  abbrev by_entry : Option FunctionEntry → Elab ℕ
  by_entry None = functions.new_entry d
  by_entry (Some f) = functions.known_entry d n f

  -- where its declaration gives no default arguments
  pub known_from : functions.defaults_of d f.defaults env ≡ Made [] env → shut.known_at d n env ≡ onward (shut.fits_entry d f env) (λ _ g. onward (made.set_entry n (record f { defaults = []; is_defined = f.is_defined || d.defines }) g) (λ _ h. Made n h))
  unfolding shut.known_at shut.fits_entry made.set_entry
  known_from given = ap (λ o. by_entry o env) has ∙ by (result_of (fun_at env.types f.type) == result_of (fun_at env.types d.type)) (not (says_internal d) || f.is_internal)
    where
      last : List Default → Env → Answer ℕ
      last ds g = onward (set_entry n (record f { defaults = ds; is_defined = f.is_defined || d.defines }) g) (λ _ h. Made n h)

      third : Bool
      third = not d.defines || not (f.is_defined || is_library f.link)

      behind : Bool → Answer ℕ
      behind b = onward (need b 30 d.at env) (λ _ g. onward (need third 8 d.at g) (λ _ h. last [] h))

      by_defaults : Answer (List Default) → Answer ℕ
      by_defaults a = onward a (λ ds g. onward (need (parameters_complete env d) 30 d.at g) (λ _ h. onward (need third 8 d.at h) (λ _ i. last ds i)))

      by : (a b : Bool) → onward (need a 8 d.at env) (λ _ g. onward (need b 9 d.at g) (λ _ h. by_defaults (functions.defaults_of d f.defaults h)))
          ≡ onward (onward (need a 8 d.at env) (λ _ g. onward (need b 9 d.at g) (λ _ h. need third 8 d.at h))) (λ _ g. last [] g)
      by true true = ap by_defaults given ∙ ap behind (parameters_fine env e d)
      by true false = refl
      by false b = refl

module _ (env : Env) (e : IsEnv env) (d : Says) (none : d.parameters ≡ []) (n : ℕ) (f : FunctionEntry) (has : slice_get env.entries n ≡ Some f) where
  abbrev types_of : List ℕ
  types_of = params_of (fun_at env.types d.type)

  abbrev defaults_by : List Parameter → Answer (List Default)
  defaults_by ps =
      onward (none_at (default_fault ps (earlier_defaults (length types_of) f.defaults)) 27 env) (λ _ g. new_defaults types_of ps (earlier_defaults (length types_of) f.defaults) g)

  defaults_are : functions.defaults_of d f.defaults env ≡ Made [] env
  defaults_are = ap defaults_by none ∙ no_defaults types_of (earlier_defaults (length types_of) f.defaults) env

  abbrev said_so : FunctionEntry
  said_so = record f { defaults = []; is_defined = f.is_defined || d.defines }

  pub known_is : shut.known_at d n env ≡ onward (shut.fits_entry d f env) (λ _ g. onward (made.set_entry n (record f { defaults = []; is_defined = f.is_defined || d.defines }) g) (λ _ h. Made n h))
  known_is = known_from env e d n f has defaults_are

  pub known_made : (x : FunctionEntry) (new : Env) → shut.fits_entry d f env ≡ Made tt env → x ≡ record f { defaults = []; is_defined = f.is_defined || d.defines }
      → made.set_entry n x env ≡ Made tt new → shut.known_at d n env ≡ Made n new
  known_made x new fits is set =
      known_is ∙ ap (λ a. onward a (λ _ g. onward (made.set_entry n said_so g) (λ _ h. Made n h))) fits
      ∙ ap (λ x. onward (made.set_entry n x env) (λ _ h. Made n h)) (sym is) ∙ ap (λ a. onward a (λ _ h. Made n h)) set

length_replaced : (n : ℕ) (x : FunctionEntry) (xs : List FunctionEntry) → length (replaced n x xs) ≡ length xs
length_replaced n x [] = refl
length_replaced zero x (y ∷ ys) = refl
length_replaced (suc n) x (y ∷ ys) = ap suc (length_replaced n x ys)

module _ (n : ℕ) (x : FunctionEntry) (env new : Env) (set : made.set_entry n x env ≡ Made tt new) where
  new_is : record env { entries = replaced n x env.entries } ≡ new
  unfolding made.set_entry
  new_is = let h : set_entry n x env ≡ Made tt new = set in cc

  pub entries_kept : n < length env.entries → n < length new.entries
  entries_kept h = let same : length new.entries ≡ length env.entries = ap (λ (e : Env). length e.entries) (sym new_is) ∙ length_replaced n x env.entries in omega arith

  pub entities_kept : new.entities ≡ env.entities
  entities_kept = ap (λ (e : Env). e.entities) (sym new_is)

-- it keeps its name
pub name_kept : (env : Env) (n : ℕ) (f x : FunctionEntry) (b : Bool) → slice_get env.entries n ≡ Some f → x ≡ record f { defaults = []; is_defined = b } → HasName env.entries n x.name
name_kept env n f x b has is = ap (option_map (λ (g : FunctionEntry). g.name)) has ∙ ap (λ (g : FunctionEntry). Some g.name) (sym is)

pub ruleset need_laws = (is_so, is_not_so)

pub ruleset fits_laws = (fits_is)

pub ruleset known_laws = (entries_kept, entities_kept)
