-- The end of a file, by whether each function and each object is defined.
use Rattle.std.proofs.Common.{◌≡◌, ℕ, Bool, true, false, not, ◌||◌, Option, None, Some, is_some, ap, ◌∙◌}
use Rattle.std.specs.Option.{option_map_or}
use Rattle.cf_elab.specs.Answer.{Answer, Made, Refused, need}
use Rattle.cf_elab.specs.Env.{Env}
use Rattle.cf_elab.specs.File.{undefined_at}
use Rattle.cf_elab_file.specs.Shut as shut

module _ (env : Env) where
  abbrev row : Bool → Option ℕ → Answer (Unit {0})
  row elsewhere place = need (elsewhere || not (is_some place)) 48 (option_map_or (λ at. at) place 0) env

  pub elsewhere : env.extent.elsewhere ≡ true → shut.all_defined env ≡ Made tt env
  unfolding shut.all_defined
  elsewhere h = ap (λ b. row b (undefined_at env)) h

  pub none_undefined : env.extent.elsewhere ≡ false → undefined_at env ≡ None → shut.all_defined env ≡ Made tt env
  unfolding shut.all_defined
  none_undefined h e = ap (λ b. row b (undefined_at env)) h ∙ ap (row false) e

  pub one_undefined : (at : ℕ) → env.extent.elsewhere ≡ false → undefined_at env ≡ Some at → shut.all_defined env ≡ Refused 48 at
  unfolding shut.all_defined
  one_undefined at h e = ap (λ b. row b (undefined_at env)) h ∙ ap (row false) e

pub ruleset defined_laws = (elsewhere, none_undefined, one_undefined)
