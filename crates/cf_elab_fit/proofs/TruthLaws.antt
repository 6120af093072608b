-- Truth by the type of the plain value. No class has a function that gives one.
use Rattle.std.proofs.Common.{◌≡◌, ℕ, Bool, true, false, None, refl, sym, ap, ◌∙◌}
use Rattle.cf_elab.specs.Answer.{Answer, Made, Refused, onward, gives, need}
use Rattle.cf_elab.specs.ClassOperand.{scalar_of_class}
use Rattle.cf_elab.specs.Env.{Env}
use Rattle.cf_elab.specs.Fit as standard
use Rattle.cf_elab.specs.Members.{class_number}
use Rattle.cf_elab.specs.Operand.{Value, sort_of, is_testable}
use Rattle.cf_elab_env.specs.Seen.{sort_seen}
use Rattle.cf_elab_env.specs.declared.sort.Sort.{Sort}
use Rattle.cf_elab_env.specs.declared.sort.Sort.TheVariants as sort
use Rattle.cf_elab_fit.specs.Shut as shut

abbrev tested : ℕ → ℕ → Value → Env → Bool → Answer Value
tested rule at x next b = onward (need b rule at next) (λ u. gives x)

module _ (rule at : ℕ) (v x : Value) (env next : Env) (s : Sort) (found : shut.plain v env ≡ Made x next) (e : sort_seen s ≡ sort_of next.types x.type) where
  unfolded : shut.truth rule at v env ≡ tested rule at x next (is_testable (sort_seen s))
  unfolding shut.truth shut.plain
  unfolded =
      ap (λ a. onward a (λ x. λ env. tested rule at x env (is_testable (sort_of env.types x.type)))) found ∙ ap (λ s. tested rule at x next (is_testable s)) (sym e)

  pub truth_made : is_testable (sort_seen s) ≡ true → shut.truth rule at v env ≡ Made x next
  truth_made h = unfolded ∙ ap (tested rule at x next) h

  pub truth_broken : is_testable (sort_seen s) ≡ false → shut.truth rule at v env ≡ Refused rule at
  truth_broken h = unfolded ∙ ap (tested rule at x next) h

pub no_class_sort : (s : Sort) → class_number (sort_seen s) ≡ None
no_class_sort (sort.Integral k) = refl
no_class_sort (sort.Enumeral k) = refl
no_class_sort (sort.ObjectPointer t) = refl
no_class_sort sort.VoidPointer = refl
no_class_sort (sort.FunctionPointer t) = refl
no_class_sort (sort.Array t n) = refl
no_class_sort (sort.Function f) = refl
no_class_sort sort.Void = refl
no_class_sort (sort.Reference t) = refl

pub user_truth_is : (rule at : ℕ) (v : Value) (env : Env) (s : Sort) (r : Answer Value) → sort_seen s ≡ sort_of env.types v.type → shut.truth rule at v env ≡ r
    → shut.user_truth rule at v env ≡ r
unfolding shut.truth shut.user_truth
user_truth_is rule at v env s r e h =
    ap (λ c. onward (scalar_of_class rule at v c env) (standard.truth rule at)) (ap class_number (sym e) ∙ no_class_sort s) ∙ h

pub ruleset truth_laws = (truth_made, truth_broken, user_truth_is)
