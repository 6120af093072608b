-- Types as those of parameters.
use Rattle.std.proofs.Common.{◌≡◌, ℕ, true, false, refl, sym, ap, ◌∙◌}
use Rattle.cf_elab.specs.Answer.{Elab, Made, gives}
use Rattle.cf_elab.specs.Env.{Env}
use Rattle.cf_elab.specs.Made.{pointer_to}
use Rattle.cf_elab.specs.Operand.{Sort, array_sort, function_sort, sort_of, is_function}
use Rattle.cf_elab.specs.Shape.{Shaped, whole, unbounded}
use Rattle.cf_elab_env.specs.Shut as made
use Rattle.cf_elab_env.proofs.Growth.{grown_laws}
use Rattle.cf_elab_shape.specs.Shapes.Seen.{type_of}
use Rattle.cf_elab_shape.specs.Shapes.Shut as shut

-- as the definition has it
abbrev array_as_pointer : ℕ → Sort → Elab ℕ
array_as_pointer t (array_sort u n) = pointer_to u
array_as_pointer t other = gives t

abbrev by_sort : Sort → ℕ → Elab ℕ
by_sort s t = elim (is_function s) [ true ↦ pointer_to t | false ↦ array_as_pointer t s ]

module _ (t : ℕ) (env : Env) where
  by_its_sort : (s : Sort) → sort_of env.types t ≡ s → shut.adjusted t env ≡ by_sort s t env
  unfolding shut.adjusted
  by_its_sort s is = ap (λ s. by_sort s t env) is

  pub adjusted_function : (f : ℕ) → function_sort f ≡ sort_of env.types t → shut.adjusted t env ≡ made.pointer_to t env
  unfolding made.pointer_to
  adjusted_function f is = by_its_sort (function_sort f) (sym is)

  pub adjusted_array : (u n : ℕ) → array_sort u n ≡ sort_of env.types t → shut.adjusted t env ≡ made.pointer_to u env
  unfolding made.pointer_to
  adjusted_array u n is = by_its_sort (array_sort u n) (sym is)

  pub adjusted_other : (s : Sort) → s ≡ sort_of env.types t → ((f : ℕ) → s ≡ function_sort f → ⊥) → ((u n : ℕ) → s ≡ array_sort u n → ⊥) → shut.adjusted t env ≡ Made t env
  adjusted_other s is no_function no_array = by_its_sort s (sym is) ∙ by s no_function no_array
    where
      by : (s : Sort) → ((f : ℕ) → s ≡ function_sort f → ⊥) → ((u n : ℕ) → s ≡ array_sort u n → ⊥) → by_sort s t env ≡ Made t env
      by (function_sort f) no_function no_array = absurd (no_function f refl)
      by (array_sort u n) no_function no_array = absurd (no_array u n refl)
      by other no_function no_array = refl

pub object_whole : (s : Shaped) (t : ℕ) (env : Env) → s ≡ whole t → shut.as_object s env ≡ shut.adjusted t env
unfolding shut.as_object shut.adjusted
object_whole s t env is = ap (λ s. shut.as_object s env) is

pub object_unbounded : (s : Shaped) (t : ℕ) (env : Env) → s ≡ unbounded t → shut.as_object s env ≡ made.pointer_to t env
unfolding shut.as_object made.pointer_to
object_unbounded s t env is = ap (λ s. shut.as_object s env) is

-- ---- the type of what is declared

pub only_whole_is : (s : Shaped) (env : Env) → shut.only_whole s env ≡ Made (type_of s) env
unfolding shut.only_whole
only_whole_is (whole t) env = refl
only_whole_is (unbounded t) env = refl

pub type_of_shaped_is : (s : Shaped) (env : Env) → shut.type_of_shaped s env ≡ Made (type_of s) env
unfolding shut.type_of_shaped
type_of_shaped_is (whole t) env = refl
type_of_shaped_is (unbounded t) env = refl

pub ruleset object_laws = (object_whole, object_unbounded, grown_laws)

pub ruleset adjusted_laws = (adjusted_function, adjusted_array, adjusted_other, grown_laws)
