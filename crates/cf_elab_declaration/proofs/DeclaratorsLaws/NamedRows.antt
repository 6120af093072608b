-- A declarator is its head, and then what it is.
use Rattle.std.proofs.Common.{◌≡◌, ℕ, Option, None, Some, is_some}
use Rattle.cf_syntax.specs.declared.name.Name.{Name as WrittenName}
use Rattle.cf_unit.specs.declared.initialiser.Initialiser.{Initialiser}
use Rattle.cf_elab.specs.Answer.{onward}
use Rattle.cf_elab.specs.Built.{of_name}
use Rattle.cf_elab.specs.Declaration.{initial_of}
use Rattle.cf_elab.specs.Env.{Env}
use Rattle.cf_elab.specs.Shape.{Shape}
use Rattle.cf_elab.specs.Specifiers.{Gathered}
use Rattle.cf_elab_declaration.specs.Declarators.Shut as shut
use Rattle.cf_elab_declare.specs.Declares.Shut as declare
use Rattle.cf_elab_declare.proofs.DeclaresLaws.Rows.{named_is}
use Rattle.cf_elab_env.proofs.Growth.{grown_laws}
use Rattle.cf_elab_shape.proofs.ShapesLaws.TypedLaws.{shape_grown}

pub declarator_is : (g : Gathered) (at : ℕ) (i : Option Initialiser) (s : Shape) (n : WrittenName) (env : Env) → of_name n ≡ None
    → shut.named_declarator g at i s n env ≡ onward (declare.head g at s (is_some i) env) (λ h env. shut.by_shape h.in_file g n s i h.shaped env)
unfolding shut.named_declarator shut.by_shape
declarator_is g at None s n env built = named_is g at None s n built env
declarator_is g at (Some i) s n env built = named_is g at (Some (initial_of i)) s n built env

pub ruleset named_laws = (declarator_is, shape_grown, grown_laws)
