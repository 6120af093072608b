-- Zeros of types, and a type with arguments.
use Rattle.std.proofs.Common.{◌≡◌, ℕ, List, [], ◌∷◌, pos, All, refl, sym, ap, subst, ◌∙◌}
use Rattle.std.proofs.lemmas.List.Elements.{All-head}
use Rattle.cf_types.specs.Table.{Table}
use Rattle.cf_convert.specs.Constness.{bare}
use Rattle.cf_core.specs.declared.node.Core.{Core as Node}
use Rattle.cf_core.specs.declared.node.Core.TheVariants as node
use Rattle.cf_elab.specs.Answer.{Answer, Made, Refused}
use Rattle.cf_elab.specs.Cast as row
use Rattle.cf_elab.specs.Env.{Env}
use Rattle.cf_elab.specs.Operand.{Value, Sort, sort_of, computed, constant, integral, enumeral, object_pointer, void_pointer, function_pointer, data_pointer, method_pointer, class_sort, array_sort, function_sort, void_sort, reference_sort}
use Rattle.cf_elab_env.specs.Holds.{Known, IsEnv, IsType}
use Rattle.cf_elab_env.proofs.Bare.{sort_bare}
use Rattle.cf_elab_env.proofs.Growth.{grown_laws}
use Rattle.cf_elab_arith.proofs.ChoiceLaws.ClassFree.{unused_node}
use Rattle.cf_elab_cast.specs.declared.arguments.Given.{Given}
use Rattle.cf_elab_cast.specs.declared.arguments.Given.TheVariants as given
use Rattle.cf_elab_cast.specs.Forms.{zero_form, zero_form_at}
use Rattle.cf_elab_cast.specs.Given.{given_by}
use Rattle.cf_elab_cast.specs.Shut as shut
use Rattle.cf_elab_cast.proofs.FormLaws.{zero_allowed}
use Rattle.cf_elab_cast.proofs.MadeLaws.{nothing_made}

-- ---- arguments

module _ (at t : ℕ) (vs : List Value) (env : Env) where
  abbrev by_given : Given → Answer Value
  by_given given.None = shut.zero_value at t env
  by_given (given.One v) = shut.cast at t v env
  by_given given.Several = Refused 15 at

  given_is : shut.from_arguments at t vs env ≡ by_given (given_by vs)
  unfolding shut.from_arguments shut.zero_value shut.cast
  given_is = by vs
    where
      by : (vs : List Value) → row.from_arguments at t vs env ≡ by_given (given_by vs)
      by [] = refl
      by (v ∷ []) = refl
      by (v ∷ w ∷ vs) = refl

  pub no_argument : given_by vs ≡ given.None → shut.from_arguments at t vs env ≡ shut.zero_value at t env
  no_argument is = given_is ∙ ap by_given is

  pub one_argument : (v : Value) → given_by vs ≡ given.One v → shut.from_arguments at t vs env ≡ shut.cast at t v env
  one_argument v is = given_is ∙ ap by_given is

  pub several_arguments : given_by vs ≡ given.Several → shut.from_arguments at t vs env ≡ Refused 15 at
  several_arguments is = given_is ∙ ap by_given is

pub argument_known : (types : Table) (vs : List Value) (v : Value) → given_by vs ≡ given.One v → All (λ v. Known types v) vs → Known types v
argument_known types vs v is all = by vs is all
  where
    by : (vs : List Value) → given_by vs ≡ given.One v → All (λ v. Known types v) vs → Known types v
    by [] is all = cc
    by (w ∷ []) is all = let same : w ≡ v = cc in subst (Known types) same (All-head (λ v. Known types v) w [] all)
    by (w ∷ x ∷ ws) is all = cc

-- ---- zeros

module _ (at t : ℕ) (env : Env) where
  abbrev nothing : Node → Answer Value
  nothing n = Made (computed at (node.Convert at (bare env.types t) n) (bare env.types t)) env

  void_zero : IsEnv env → IsType env.types t → void_sort ≡ sort_of env.types t → row.zero_value at t env ≡ nothing (node.Number at (pos 0))
  void_zero known typed h = rw (← h) (ap nothing (unused_node env (constant at (pos 0) t) known typed))

  zero_sort : IsEnv env → IsType env.types t → (s : Sort) → s ≡ sort_of env.types t → row.zero_value at t env ≡ shut.cast_by at (bare env.types t) (zero_form s) (constant at (pos 0) t) env
  unfolding shut.cast_by
  zero_sort known typed (integral k) h = rw (← h) refl
  zero_sort known typed (enumeral e) h = rw (← h) refl
  zero_sort known typed (object_pointer u) h = rw (← h) refl
  zero_sort known typed void_pointer h = rw (← h) refl
  zero_sort known typed (function_pointer u) h = rw (← h) refl
  zero_sort known typed (data_pointer c u) h = rw (← h) refl
  zero_sort known typed (method_pointer c f) h = rw (← h) refl
  zero_sort known typed (class_sort c) h = rw (← h) refl
  zero_sort known typed (array_sort u n) h = rw (← h) refl
  zero_sort known typed (function_sort f) h = rw (← h) refl
  zero_sort known typed void_sort h =
      void_zero known typed h ∙ sym (nothing_made at (bare env.types t) (constant at (pos 0) t) (node.Convert at (bare env.types t) (node.Number at (pos 0))) env known typed refl)
  zero_sort known typed (reference_sort u) h = rw (← h) refl

  pub zero_is : IsEnv env → IsType env.types t
      → shut.zero_value at t env ≡ shut.cast_by at (bare env.types t) (zero_form_at env.types (bare env.types t)) (constant at (pos 0) t) env
  unfolding shut.zero_value zero_form_at
  zero_is e typed =
      zero_sort e typed (sort_of env.types t) refl
      ∙ ap (λ s. shut.cast_by at (bare env.types t) (zero_form s) (constant at (pos 0) t) env) (sym (sort_bare env.types e.table t typed))

pub ruleset arguments_laws = (no_argument, one_argument, several_arguments, argument_known, grown_laws)

pub ruleset zero_laws = (zero_is, zero_allowed, grown_laws)
