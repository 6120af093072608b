-- What the rows are by their steps.
use Rattle.std.proofs.Common.{◌≡◌, ℕ, List, Option, None, Some, refl}
use Rattle.cf_elab.specs.Answer.{Made, Refused, onward}
use Rattle.cf_elab.specs.Declarator as declarator
use Rattle.cf_elab.specs.Env.{Env}
use Rattle.cf_elab.specs.Shape.{Shape, Shaped, whole, unbounded, nowhere}
use Rattle.cf_elab.specs.Specifiers as specifiers
use Rattle.cf_elab.specs.Specifiers.{Word, gathered, parameter_conflict, type_conflict}
use Rattle.cf_elab_shape.specs.Shapes.Seen.{type_of}
use Rattle.cf_elab_shape.specs.Shapes.Shut as shape
use Rattle.cf_elab_specifiers.specs.Said.Shut as specifier
use Rattle.cf_elab_shape.specs.TypeIds.Shut as shut

pub conflicting : (at : ℕ) (env : Env) → shut.no_conflict (Some at) env ≡ Refused 24 at
unfolding shut.no_conflict
conflicting at env = refl

pub fine : (env : Env) → shut.no_conflict None env ≡ Made tt env
unfolding shut.no_conflict
fine env = refl

-- the type, or that of the elements
pub one_type : (t : Shaped) (env : Env) → declarator.only_whole t env ≡ Made (type_of t) env
one_type (whole t) env = refl
one_type (unbounded t) env = refl

pub stored_is : (ws : List Word) → shut.is_stored ws ≡ specifiers.is_stored (gathered ws)
unfolding shut.is_stored
stored_is ws = refl

module _ (ws : List Word) (s : Shape) (env : Env) where
  pub type_is : shut.type_behind ws s env
      ≡ onward (shut.no_conflict (type_conflict (gathered ws)) env) (λ u env. onward (specifier.base_type (gathered ws) env) (λ base env.
      onward (shape.typed nowhere s base env) (λ t env. onward (shape.bounds_constant s env) (λ u env. declarator.only_whole t env))))
  unfolding shut.type_behind shut.no_conflict specifier.base_type shape.typed shape.bounds_constant
  type_is = refl

  pub parameter_is : shut.parameter_behind ws s env
      ≡ onward (shut.no_conflict (parameter_conflict (gathered ws)) env) (λ u env. onward (specifier.base_type (gathered ws) env) (λ base env.
      onward (shape.typed shut.of_parameter s base env) (λ t env. onward (shape.bounds_constant s env) (λ u env. shape.as_object t env))))
  unfolding shut.parameter_behind shut.no_conflict specifier.base_type shape.typed shape.bounds_constant shape.as_object
  parameter_is = refl
