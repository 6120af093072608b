-- Specifiers of a definition that conflict.
use Rattle.std.proofs.Common.{◌≡◌, ℕ, Bool, Option, None, Some, sym, ap, ◌∙◌}
use Rattle.cf_elab.specs.Answer.{Made, Refused, none_at}
use Rattle.cf_elab.specs.Env.{Env}
use Rattle.cf_elab.specs.Specifiers.{Gathered}
use Rattle.cf_elab_unit.specs.Definitions.Shut as shut

module _ (f : Bool) (at : ℕ) (g : Gathered) (o : Option ℕ) (env : Env) (is : o ≡ shut.definition_conflict f at g) where
  pub no_conflict : o ≡ None → shut.no_conflict f at g env ≡ Made tt env
  unfolding shut.no_conflict shut.definition_conflict
  no_conflict h = ap (λ o. none_at o 24 env) (sym is ∙ h)

  pub one_conflict : (place : ℕ) → o ≡ Some place → shut.no_conflict f at g env ≡ Refused 24 place
  unfolding shut.no_conflict shut.definition_conflict
  one_conflict place h = ap (λ o. none_at o 24 env) (sym is ∙ h)

pub ruleset conflict_laws = (no_conflict, one_conflict)
