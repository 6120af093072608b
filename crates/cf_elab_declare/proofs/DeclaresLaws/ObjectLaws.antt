-- What is looked at of an object's type.
use Rattle.std.proofs.Common.{◌≡◌, ℕ, Bool, true, false, not, ap, ◌∙◌}
use Rattle.cf_elab.specs.Answer.{Answer, Made, Refused, onward, need}
use Rattle.cf_elab.specs.Complete.{complete}
use Rattle.cf_elab.specs.Env.{Env}
use Rattle.cf_elab.specs.Operand.{sort_of, is_void}
use Rattle.cf_elab_declare.specs.Declares.Shut as shut

module _ (at t : ℕ) (env : Env) where
  abbrev by_tests : Bool → Bool → Answer (Unit {0})
  by_tests v c = onward (need (not v) 26 at env) (λ _ env. need c 30 at env)

  pub nothing : is_void (sort_of env.types t) ≡ true → shut.check_object at t env ≡ Refused 26 at
  unfolding shut.check_object
  nothing v = ap (λ v. by_tests v (complete env t)) v

  pub incomplete : is_void (sort_of env.types t) ≡ false → complete env t ≡ false → shut.check_object at t env ≡ Refused 30 at
  unfolding shut.check_object
  incomplete v c = ap (λ v. by_tests v (complete env t)) v ∙ ap (by_tests false) c

  pub something : is_void (sort_of env.types t) ≡ false → complete env t ≡ true → shut.check_object at t env ≡ Made tt env
  unfolding shut.check_object
  something v c = ap (λ v. by_tests v (complete env t)) v ∙ ap (by_tests false) c

pub ruleset checked_laws = (nothing, incomplete, something)
