-- The type of a declarator by its steps.
use Rattle.std.proofs.Common.{◌≡◌, ℕ, Bool, refl}
use Rattle.cf_elab.specs.Answer.{Made, onward}
use Rattle.cf_elab.specs.Declaration.{declares_function}
use Rattle.cf_elab.specs.Env.{Env}
use Rattle.cf_elab.specs.Names.{is_file_scope}
use Rattle.cf_elab.specs.Shape.{Shape}
use Rattle.cf_elab.specs.Specifiers.{Gathered}
use Rattle.cf_elab_declare.specs.Declares.Shut as shut
use Rattle.cf_elab_env.proofs.Growth.{grown_laws}
use Rattle.cf_elab_shape.specs.Shapes.Shut as shape
use Rattle.cf_elab_shape.proofs.ShapesLaws.TypedLaws.{shape_grown}
use Rattle.cf_elab_specifiers.specs.Said.Shut as specifier

pub head_is : (g : Gathered) (at : ℕ) (s : Shape) (given : Bool) (env : Env)
    → shut.head g at s given env
    ≡ onward (specifier.base_type g env) (λ base env.
    onward (shut.no_conflict (is_file_scope env.scopes) (declares_function env base s) at g env) (λ _ e. onward (shut.no_definition g s e) (λ _ e.
    onward (shape.typed (shut.position g given) s base e) (λ t e. onward (shape.bounds_constant s e) (λ _ e.
    Made (record { in_file = is_file_scope env.scopes; shaped = t }) e)))))
unfolding shut.head shut.no_conflict shut.no_definition specifier.base_type shape.typed shape.bounds_constant
head_is g at s given env = refl

pub ruleset head_laws = (head_is, shape_grown, grown_laws)
