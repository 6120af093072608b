-- A function that no declaration before said: without default arguments, and its parameters are complete, since no class is defined.
use Rattle.std.proofs.Common.{◌≡◌, ℕ, ◌<◌, Bool, true, false, not, ◌&&◌, ◌||◌, List, [], ◌∷◌, ◌++◌, length, Option, None, Some, slice_get, All, refl, sym, ap, ◌∙◌, arith}
use Rattle.std.proofs.lemmas.List.Elements.{All-head, All-tail}
use Rattle.cf_types.specs.declared.ty.Ty.{Ty}
use Rattle.cf_types.specs.declared.ty.Ty.TheVariants as ty
use Rattle.cf_types.specs.declared.ty.Fun.{Fun}
use Rattle.std.specs.Prelude.{bytes_eq}
use Rattle.std.specs.List.{list_any}
use Rattle.cf_convert.specs.Constness.{bare}
use Rattle.cf_classes.specs.TypeTree.{params_of, fun_of}
use Rattle.cf_elab.specs.Answer.{Answer, Made, Refused, Passed, onward, need, none_at}
use Rattle.cf_elab.specs.Arguments.{fun_at}
use Rattle.cf_elab.specs.Complete.{complete, name_within}
use Rattle.cf_elab.specs.Env.{Env, Name, Default, FunctionEntry}
use Rattle.cf_elab.specs.Functions as functions
use Rattle.cf_elab.specs.Functions.{Says, default_fault, earlier_defaults, new_defaults, entry, said_link, parameters_complete}
use Rattle.cf_elab.specs.Shape.{Parameter}
use Rattle.cf_elab_env.specs.Holds.{IsEnv}
use Rattle.cf_elab_env.proofs.Sorts.{all_complete}
use Rattle.cf_elab_objects.specs.Links.Shut as links
use Rattle.cf_elab_functions.specs.Shut as shut

pub no_defaults : (ts : List ℕ) (ds : List (Option Default)) (env : Env) → new_defaults ts [] ds env ≡ Made [] env
no_defaults [] ds env = refl
no_defaults (t ∷ ts) ds env = refl

-- as the definition has it
abbrev complete_all : Env → List ℕ → Bool
complete_all env [] = true
complete_all env (t ∷ ts) = complete env t && complete_all env ts

module _ (env : Env) (e : IsEnv env) where
  complete_known : (ts : List ℕ) → All (λ t. t < length env.types.types) ts → complete_all env ts ≡ true
  complete_known [] known = refl
  complete_known (t ∷ ts) known =
      ap (λ b. b && complete_all env ts) (sym (all_complete env e.table e.no_class_type t (All-head (λ t. t < length env.types.types) t ts known)))
      ∙ complete_known ts (All-tail (λ t. t < length env.types.types) t ts known)

  params_known : (o : Option Fun) → ((f : Fun) → o ≡ Some f → All (λ t. t < length env.types.types) f.params) → All (λ t. t < length env.types.types) (params_of o)
  params_known None known = λ k d h. absurd (omega arith)
  params_known (Some f) known = known f refl

  its_params : (t : ℕ) → All (λ t. t < length env.types.types) (params_of (fun_at env.types t))
  its_params t = params_known (fun_at env.types t) (from (slice_get env.types.types (bare env.types t)))
    where
      from : (o : Option Ty) (fun : Fun) → fun_of env.types o ≡ Some fun → All (λ t. t < length env.types.types) fun.params
      from (Some (ty.Fun f)) fun h = All-tail (λ t. t < length env.types.types) fun.result fun.params (e.table.known f fun h)
      from other fun h = cc

-- a limit that is looked at, and then the name
paired : (a : Answer (Unit {0})) (l : Name) (n : ℕ) (f : Name → Env → Env) → onward a (λ _ h. Made n (f l h)) ≡ onward (onward a (λ _ h. Made l h)) (λ l h. Made n (f l h))
paired (Made u h) l n f = refl
paired (Refused r at) l n f = refl
paired (Passed b m) l n f = refl

abbrev named : Env → Says → Name → FunctionEntry
named env d link = record (entry env d []) { link = link }

abbrev entered : Env → Says → Name → Env → Env
entered env d link f = record f { entries = f.entries ++ named env d link ∷ [] }

module _ (env : Env) (e : IsEnv env) (d : Says) where
  abbrev its_types : List ℕ
  its_types = params_of (fun_at env.types d.type)

  pub parameters_fine : parameters_complete env d ≡ true
  parameters_fine = ap (λ b. not d.defines || b) (complete_known env e its_types (its_params env e d.type)) ∙ or-true (not d.defines)
    where
      or-true : (b : Bool) → (b || true) ≡ true
      or-true true = refl
      or-true false = refl

  -- where its declaration gives no default arguments
  pub new_from : functions.defaults_of d [] env ≡ Made [] env → shut.new_entry d env
      ≡ onward (shut.need_single d env) (λ _ e. onward (shut.need_definition d e) (λ _ g.
      onward (links.name_or_limit (shut.said_link env d) g) (λ l f. Made (length env.entries) (entered env d l f))))
  unfolding shut.new_entry shut.need_single shut.need_definition shut.said_link links.name_or_limit
  new_from given = ap (λ a. onward a rest) given ∙ ap behind parameters_fine ∙ by (env.extent.overloads || not (list_any (λ (f : FunctionEntry). bytes_eq f.name d.name) env.entries))
    where
      tail : Env → Answer ℕ
      tail g = onward (name_within (said_link env d) g) (λ _ h. Made (length env.entries) (entered env d (said_link env d) h))

      behind : Bool → Answer ℕ
      behind b = onward (need b 30 d.at env) (λ _ f. onward (functions.need_single env d f) (λ _ g. onward (functions.need_definition env d g) (λ _ h. tail h)))

      rest : List Default → Env → Answer ℕ
      rest ds f =
          onward (need (parameters_complete f d) 30 d.at f) (λ _ g. onward (functions.need_single f d g) (λ _ h. onward (functions.need_definition f d h) (λ _ i.
          onward (name_within (said_link f d) i) (λ _ j. Made (length f.entries) (record j { entries = j.entries ++ entry f d ds ∷ [] })))))

      paired_tail : Env → Answer ℕ
      paired_tail g = onward (onward (name_within (said_link env d) g) (λ _ h. Made (said_link env d) h)) (λ l f. Made (length env.entries) (entered env d l f))

      by_definition : (b : Bool) → onward (need b 48 d.at env) (λ _ g. tail g) ≡ onward (need b 48 d.at env) (λ _ g. paired_tail g)
      by_definition true = paired (name_within (said_link env d) env) (said_link env d) (length env.entries) (entered env d)
      by_definition false = refl

      by : (b : Bool) → onward (need b 48 d.at env) (λ _ g. onward (functions.need_definition env d g) (λ _ h. tail h))
          ≡ onward (need b 48 d.at env) (λ _ g. onward (functions.need_definition g d g) (λ _ h. paired_tail h))
      by true = by_definition (env.extent.elsewhere || d.defines || d.is_initialised || list_any (bytes_eq d.name) env.defines)
      by false = refl

module _ (env : Env) (d : Says) (none : d.parameters ≡ []) where
  abbrev types_of : List ℕ
  types_of = params_of (fun_at env.types d.type)

  abbrev defaults_by : List Parameter → Answer (List Default)
  defaults_by ps =
      onward (none_at (default_fault ps (earlier_defaults (length types_of) [])) 27 env) (λ _ f. new_defaults types_of ps (earlier_defaults (length types_of) []) f)

  pub defaults_are : functions.defaults_of d [] env ≡ Made [] env
  defaults_are = ap defaults_by none ∙ no_defaults types_of (earlier_defaults (length types_of) []) env

  pub new_is : IsEnv env → shut.new_entry d env
      ≡ onward (shut.need_single d env) (λ _ e. onward (shut.need_definition d e) (λ _ g.
      onward (links.name_or_limit (shut.said_link env d) g) (λ l f. Made (length env.entries) (entered env d l f))))
  new_is e = new_from env e d defaults_are

pub ruleset new_laws = (new_is)
