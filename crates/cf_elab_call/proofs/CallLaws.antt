-- Calls of functions by their numbers, and through pointers.
use Rattle.std.proofs.Common.{◌≡◌, ℕ, ◌<◌, ◌≤◌, ◌-◌, List, [], ◌∷◌, length, map, get_or, Option, None, Some, slice_get, refl, sym, ap, subst, ◌∙◌, arith}
use Rattle.std.specs.List.{cons_option}
use Rattle.std.proofs.lemmas.Option.{slice_get_past}
use Rattle.cf_core.specs.declared.node.Core.TheVariants as node
use Rattle.cf_elab.specs.Answer.{Answer, Made, Refused, onward}
use Rattle.cf_elab.specs.Call as call
use Rattle.cf_elab.specs.Env.{Env, Name, FunctionEntry}
use Rattle.cf_elab.specs.Operand.{Value}
use Rattle.cf_elab.specs.UserFit as user
use Rattle.cf_elab_env.specs.Answered.{Stops}
use Rattle.cf_elab_env.specs.Holds.{IsEntry}
use Rattle.cf_elab_env.specs.declared.stop.Stop.{Stop}
use Rattle.cf_elab_env.proofs.Growth.{grown_laws}
use Rattle.cf_elab_call.specs.Shut as shut
use Rattle.cf_elab_call.specs.Shut.{alone}
use Rattle.cf_elab_call.specs.Signatures.{params_at, result_at}
use Rattle.cf_elab_call.proofs.ArgumentLaws.{stops_onward}
use Rattle.cf_elab_call.proofs.MatchingLaws.{pick_then}

-- ---- with the arguments

pub direct_is : (at : ℕ) (link : Name) (t : ℕ) (ps : List ℕ) (r : ℕ) (vs : List Value) (env : Env)
    → shut.direct at link t ps r vs env ≡ onward (shut.arguments at ps vs env) (λ args env. shut.called at r (node.Call at link t None args) env)
unfolding shut.direct shut.arguments shut.called
direct_is at link t ps r vs env = refl

pub through_is : (at : ℕ) (p : Value) (t : ℕ) (ps : List ℕ) (r : ℕ) (vs : List Value) (env : Env)
    → shut.through at p t ps r vs env ≡ onward (shut.arguments at ps vs env) (λ args env. shut.called at r (node.PointerCall at None p.node t args) env)
unfolding shut.through shut.arguments shut.called
through_is at p t ps r vs env = refl

-- ---- what is chosen of one is the one

pub pointer_is : (at : ℕ) (p : Value) (t : ℕ) (vs : List Value) (env : Env) (ps : List ℕ) (r : ℕ) → ps ≡ params_at env.types t → r ≡ result_at env.types t
    → shut.call_pointer at p t vs env ≡ onward (shut.need_arguments at ps vs env) (λ _. shut.through at p t ps r vs)
unfolding shut.call_pointer shut.through params_at result_at
pointer_is at p t vs env ps r e f =
    pick_then at (params_at env.types t) vs env (λ _. shut.through at p t (params_at env.types t) (result_at env.types t) vs)
    (shut.through at p t (params_at env.types t) (result_at env.types t) vs) refl
    ∙ ap (λ ps. onward (shut.need_arguments at ps vs env) (λ _. shut.through at p t ps (result_at env.types t) vs)) (sym e)
    ∙ ap (λ r. onward (shut.need_arguments at ps vs env) (λ _. shut.through at p t ps r vs)) (sym f)

module _ (at : ℕ) (p : Value) (t : ℕ) (vs ws : List Value) (env : Env) (ps qs : List ℕ) (r : ℕ) (params : ps ≡ params_at env.types t) (returns : r ≡ result_at env.types t)
    (same_params : qs ≡ ps) (same_values : ws ≡ vs) where
  needed : shut.need_arguments at qs ws env ≡ shut.need_arguments at ps vs env
  needed = ap (λ qs. shut.need_arguments at qs ws env) same_params ∙ ap (λ ws. shut.need_arguments at ps ws env) same_values

  pub pointer_stops : (s : Stop) → Stops (shut.need_arguments at qs ws env) s → Stops (shut.call_pointer at p t vs env) s
  pointer_stops s h =
      subst (λ a. Stops a s) (sym (pointer_is at p t vs env ps r params returns))
      (stops_onward (shut.need_arguments at ps vs env) (λ _. shut.through at p t ps r vs) s (subst (λ a. Stops a s) needed h))

  pub pointer_then : (u : Unit {0}) → shut.need_arguments at qs ws env ≡ Made u env → shut.call_pointer at p t vs env ≡ shut.through at p t ps r vs env
  pointer_then u h = pointer_is at p t vs env ps r params returns ∙ ap (λ a. onward a (λ _. shut.through at p t ps r vs)) (sym needed ∙ h)

module _ (at : ℕ) (vs : List Value) (env : Env) where
  -- by the functions that the numbers are of
  abbrev of_entries : List FunctionEntry → Answer Value
  of_entries fs = onward (call.pick at (map (call.candidate env.types) fs) vs env) (λ i. call.call_entry at vs (slice_get fs i))

  abbrev entry_of : Option FunctionEntry → List FunctionEntry
  entry_of None = []
  entry_of (Some f) = f ∷ []

  one_entry : (f : ℕ) → shut.call_functions at (f ∷ []) vs env ≡ of_entries (entry_of (slice_get env.entries f))
  unfolding shut.call_functions
  one_entry f = by (slice_get env.entries f)
    where
      by : (o : Option FunctionEntry) → of_entries (cons_option o []) ≡ of_entries (entry_of o)
      by None = refl
      by (Some x) = refl

  pub undeclared : (f : ℕ) → length env.entries ≤ f → shut.call_functions at (f ∷ []) vs env ≡ Refused 46 at
  undeclared f past = one_entry f ∙ ap (λ o. of_entries (entry_of o)) (slice_get_past env.entries f past)

  pub no_functions : (fs : List ℕ) → length fs < 1 → shut.call_functions at fs vs env ≡ Refused 46 at
  unfolding shut.call_functions
  no_functions [] none = refl
  no_functions (f ∷ fs) none = absurd (omega arith)

  pub one_function : (fs : List ℕ) → 1 ≤ length fs → length fs < 2 → shut.call_functions at fs vs env ≡ shut.call_functions at (get_or fs 0 0 ∷ []) vs env
  one_function [] some few = absurd (omega arith)
  one_function (f ∷ []) some few = refl
  one_function (f ∷ g ∷ fs) some few = absurd (omega arith)

  -- without default arguments as many are taken as there are parameters
  as_alone : (x : FunctionEntry) → x.defaults ≡ [] → call.candidate env.types x ≡ alone (params_at env.types x.type)
  unfolding params_at
  as_alone x none =
      let ps = params_at env.types x.type in
      let all : length ps - length x.defaults ≡ length ps = omega (arith, ap length none) in
      ap (λ n. record { params = ps; least = n }) all

  module _ (f : ℕ) (x : FunctionEntry) (ps : List ℕ) (r : ℕ) (declared : slice_get env.entries f ≡ Some x) (e : IsEntry env.types x)
      (params : ps ≡ params_at env.types x.type) (returns : r ≡ result_at env.types x.type) where
    abbrev then_direct : List ℕ → ℕ → Answer Value
    then_direct ps r = onward (shut.need_arguments at ps vs env) (λ _. shut.direct at x.link x.type ps r vs)

    entry_called : call.call_entry at vs (Some x) env ≡ shut.direct at x.link x.type (params_at env.types x.type) (result_at env.types x.type) vs env
    unfolding shut.direct params_at result_at
    entry_called = ap (λ ds. onward (user.arguments at (params_at env.types x.type) ds vs env) (λ args. call.called at (result_at env.types x.type) (node.Call at x.link x.type None args))) e.no_defaults

    pub declared_is : shut.call_functions at (f ∷ []) vs env ≡ then_direct ps r
    declared_is =
        one_entry f ∙ ap (λ o. of_entries (entry_of o)) declared
        ∙ ap (λ c. onward (call.pick at (c ∷ []) vs env) (λ i. call.call_entry at vs (slice_get (x ∷ []) i))) (as_alone x e.no_defaults)
        ∙ pick_then at (params_at env.types x.type) vs env (λ i. call.call_entry at vs (slice_get (x ∷ []) i))
        (shut.direct at x.link x.type (params_at env.types x.type) (result_at env.types x.type) vs) entry_called
        ∙ ap (λ ps. then_direct ps (result_at env.types x.type)) (sym params) ∙ ap (then_direct ps) (sym returns)

  module _ (f : ℕ) (x : FunctionEntry) (link : Name) (t : ℕ) (ps qs : List ℕ) (ws : List Value) (r : ℕ) (declared : slice_get env.entries f ≡ Some x) (e : IsEntry env.types x)
      (same_link : link ≡ x.link) (same_type : t ≡ x.type) (params : ps ≡ params_at env.types t) (returns : r ≡ result_at env.types t) (same_params : qs ≡ ps) (same_values : ws ≡ vs) where
    as_needed : shut.need_arguments at qs ws env ≡ shut.need_arguments at ps vs env
    as_needed = ap (λ qs. shut.need_arguments at qs ws env) same_params ∙ ap (λ ws. shut.need_arguments at ps ws env) same_values

    in_steps : shut.call_functions at (f ∷ []) vs env ≡ onward (shut.need_arguments at ps vs env) (λ _. shut.direct at link t ps r vs)
    in_steps =
        declared_is f x ps r declared e (params ∙ ap (params_at env.types) same_type) (returns ∙ ap (result_at env.types) same_type)
        ∙ ap (λ link. onward (shut.need_arguments at ps vs env) (λ _. shut.direct at link x.type ps r vs)) (sym same_link)
        ∙ ap (λ t. onward (shut.need_arguments at ps vs env) (λ _. shut.direct at link t ps r vs)) (sym same_type)

    pub declared_stops : (s : Stop) → Stops (shut.need_arguments at qs ws env) s → Stops (shut.call_functions at (f ∷ []) vs env) s
    declared_stops s h =
        subst (λ a. Stops a s) (sym in_steps)
        (stops_onward (shut.need_arguments at ps vs env) (λ _. shut.direct at link t ps r vs) s (subst (λ a. Stops a s) as_needed h))

    pub declared_then : (u : Unit {0}) → shut.need_arguments at qs ws env ≡ Made u env → shut.call_functions at (f ∷ []) vs env ≡ shut.direct at link t ps r vs env
    declared_then u h = in_steps ∙ ap (λ a. onward a (λ _. shut.direct at link t ps r vs)) (sym as_needed ∙ h)

pub ruleset direct_laws = (direct_is, grown_laws)

pub ruleset through_laws = (through_is, grown_laws)

pub ruleset numbered_laws = (undeclared)

pub ruleset functions_laws = (no_functions, one_function)
