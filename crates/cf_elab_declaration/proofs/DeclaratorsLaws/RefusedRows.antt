-- Type names and functions, which have no initialiser.
use Rattle.std.proofs.Common.{◌≡◌, ℕ, Option, None, Some, is_some, refl}
use Rattle.cf_syntax.specs.declared.name.Name.{Name as WrittenName}
use Rattle.cf_unit.specs.declared.initialiser.Initialiser.{Initialiser}
use Rattle.cf_elab.specs.Answer.{onward}
use Rattle.cf_elab.specs.Declaration as declaration
use Rattle.cf_elab.specs.Declaration.{initial_of}
use Rattle.cf_elab.specs.Env.{Env, Name}
use Rattle.cf_elab.specs.Shape.{Shape}
use Rattle.cf_elab.specs.Specifiers.{Gathered}
use Rattle.cf_elab_declaration.specs.Declarators.Shut as shut
use Rattle.cf_elab_declare.specs.Declares.Shut as declare
use Rattle.cf_elab_declare.proofs.DeclaresLaws.Rows.{function_is, same_place}
use Rattle.cf_elab_env.proofs.Growth.{grown_laws}
use Rattle.cf_elab_objects.specs.Objects.Shut as objects
use Rattle.cf_elab_shape.proofs.ShapesLaws.TypedLaws.{shape_grown}
use Rattle.cf_elab_declaration.specs.WrittenTrees.Given.{given, place_of}
use Rattle.cf_elab_declaration.specs.WrittenTrees.Shut as written

pub refused_is : (i : Option Initialiser) (env : Env) → shut.not_initialised i env ≡ onward (written.parts_of i env) (λ _ env. objects.no_initialiser (place_of i) env)
unfolding shut.not_initialised
refused_is i env = refl

parts_refused : (i : Option Initialiser) (env : Env) → onward (declaration.parts_of (given i) env) (λ _ env. declaration.no_initialiser (given i) env) ≡ shut.not_initialised i env
unfolding shut.not_initialised written.parts_of
parts_refused i env = λ j. onward (declaration.parts_of (given i) env) (λ _ env. same_place (given i) env j)

pub typedef_is : (name : Name) (at t : ℕ) (i : Option Initialiser) (env : Env)
    → shut.typedef_row name at t i env ≡ onward (objects.aliased name at t env) (λ _ env. shut.not_initialised i env)
unfolding shut.typedef_row objects.aliased
typedef_is name at t i env = λ j. onward (objects.aliased name at t env) (λ _ env. parts_refused i env j)

module _ (g : Gathered) (n : WrittenName) (t : ℕ) (s : Shape) (env : Env) where
  pub function_row_is : (i : Option Initialiser)
      → shut.function_row g n t s i env ≡ onward (declare.function_declared g n t s (is_some i) env) (λ _ env. shut.not_initialised i env)
  unfolding shut.function_row shut.not_initialised written.parts_of
  function_row_is None = function_is g n t s None env
  function_row_is (Some x) = function_is g n t s (Some (initial_of x)) env

pub ruleset refused_laws = (refused_is, grown_laws)

pub ruleset typedef_laws = (typedef_is, grown_laws)

pub ruleset function_laws = (function_row_is, shape_grown, grown_laws)
