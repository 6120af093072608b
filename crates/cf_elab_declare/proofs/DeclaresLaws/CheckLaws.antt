-- Specifiers that conflict, and definitions among those of a function.
use Rattle.std.proofs.Common.{◌≡◌, ℕ, Bool, true, false, Option, None, Some, is_some, if◌then◌else◌, refl, sym, ap, ◌∙◌, Bor}
use Rattle.std.specs.Option.{option_copied}
use Rattle.cf_elab.specs.Answer.{Answer, Made, Refused, none_at}
use Rattle.cf_elab.specs.Declaration.{conflict}
use Rattle.cf_elab.specs.Env.{Env}
use Rattle.cf_elab.specs.Shape.{Shape, function_of}
use Rattle.cf_elab.specs.Specifiers.{Gathered}
use Rattle.cf_elab_declare.specs.Declares.Shut as shut

module _ (in_file is_function : Bool) (at : ℕ) (g : Gathered) (o : Option ℕ) (env : Env) (is : o ≡ conflict in_file is_function at g) where
  pub no_conflict : o ≡ None → shut.no_conflict in_file is_function at g env ≡ Made tt env
  unfolding shut.no_conflict
  no_conflict h = ap (λ o. none_at o 24 env) (sym is ∙ h)

  pub one_conflict : (place : ℕ) → o ≡ Some place → shut.no_conflict in_file is_function at g env ≡ Refused 24 place
  unfolding shut.no_conflict
  one_conflict place h = ap (λ o. none_at o 24 env) (sym is ∙ h)

pub ruleset conflict_laws = (no_conflict, one_conflict)

pub some_copied : {A : Type 0} (o : Option (Bor A)) → is_some (option_copied o) ≡ is_some o
some_copied None = refl
some_copied (Some x) = refl

module _ (g : Gathered) (s : Shape) (f : Bool) (env : Env) (is : f ≡ is_some (function_of s)) where
  abbrev tested : Bool → Option ℕ → Answer (Unit {0})
  tested f d = none_at (if f then d else None) 26 env

  pub no_function : f ≡ false → shut.no_definition g s env ≡ Made tt env
  unfolding shut.no_definition
  no_function h = ap (λ f. tested f g.defined_at) (sym is ∙ h)

  module _ (d : Option ℕ) (there : d ≡ g.defined_at) where
    pub not_defined : f ≡ true → d ≡ None → shut.no_definition g s env ≡ Made tt env
    unfolding shut.no_definition
    not_defined h none = ap (λ f. tested f g.defined_at) (sym is ∙ h) ∙ ap (tested true) (sym there ∙ none)

    pub defined : (at : ℕ) → f ≡ true → d ≡ Some at → shut.no_definition g s env ≡ Refused 26 at
    unfolding shut.no_definition
    defined at h some = ap (λ f. tested f g.defined_at) (sym is ∙ h) ∙ ap (tested true) (sym there ∙ some)

pub ruleset definition_laws = (no_function, not_defined, defined)
