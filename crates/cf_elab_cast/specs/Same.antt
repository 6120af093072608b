-- Whether two types are the same otherwise than in const, by what they are made of.
use Rattle.std.specs.Prelude.{ℕ, ◌<◌, Bool, true, false, ◌==◌, ◌&&◌, if◌then◌else◌, List, [], ◌∷◌, length, Option, Some, slice_get, bytes_eq, All}
use Rattle.cf_classes.specs.LinkName.{scope_code, enum_names}
use Rattle.cf_core.specs.Types.{kind_number}
use Rattle.cf_types.specs.Table.{parts_of_fun}
use Rattle.cf_types.specs.declared.ty.Fun.{Fun}
use Rattle.cf_types.specs.declared.ty.Ty.{Ty}
use Rattle.cf_types.specs.declared.ty.Ty.TheVariants as ty
use Rattle.cf_elab.specs.Cast.{same_types}
use Rattle.cf_elab.specs.Env.{Env}
use Rattle.cf_elab_cast.specs.declared.same.SameIf.{SameIf}
use Rattle.cf_elab_cast.specs.declared.same.SameIf.TheVariants as same_by

unfoldable pub same : Env → ℕ → ℕ → Bool
same = same_types

-- enumerations go by their codes
unfoldable pub same_enums : Env → ℕ → ℕ → Bool
same_enums env e f = bytes_eq (scope_code (enum_names env.classes e)) (scope_code (enum_names env.classes f))

abbrev pub same_params : Env → List ℕ → List ℕ → Bool
same_params env [] [] = true
same_params env (p ∷ ps) (q ∷ qs) = same env p q && same_params env ps qs
same_params env ps qs = false

-- by parameters and result
abbrev pub same_funs : Env → Option Fun → Option Fun → Bool
same_funs env (Some f) (Some g) = same_params env f.params g.params && same env f.result g.result
same_funs env f g = false

abbrev pub same_functions : Env → ℕ → ℕ → Bool
same_functions env f g = same_funs env (slice_get env.types.funs f) (slice_get env.types.funs g)

-- what it takes for two types to be the same that are neither const nor a class
abbrev pub same_if : Ty → Ty → SameIf
same_if ty.Void ty.Void = same_by.Known true
same_if (ty.Int k) (ty.Int l) = same_by.Known (kind_number k == kind_number l)
same_if (ty.Enum e) (ty.Enum f) = same_by.Enums e f
same_if (ty.Ptr t) (ty.Ptr u) = same_by.Types t u
same_if (ty.Ref t) (ty.Ref u) = same_by.Types t u
same_if (ty.Array t n) (ty.Array u m) = if n == m then same_by.Types t u else same_by.Known false
same_if (ty.Fun f) (ty.Fun g) = same_by.Functions f g
same_if v w = same_by.Known false

-- whether it is so
abbrev pub answered : Env → SameIf → Bool
answered env (same_by.Known b) = b
answered env (same_by.Enums e f) = same_enums env e f
answered env (same_by.Types t u) = same env t u
answered env (same_by.Functions f g) = same_functions env f g

-- the types that are asked for stand before the two in the table
pub record FunsBelow (env : Env) (t u f g : ℕ) : Type 0 where
  pub first : f < length env.types.funs
  pub second : g < length env.types.funs
  pub first_parts : All (λ p. p < t) (parts_of_fun (slice_get env.types.funs f))
  pub second_parts : All (λ p. p < u) (parts_of_fun (slice_get env.types.funs g))

abbrev pub Below : Env → ℕ → ℕ → SameIf → Type 0
Below env t u (same_by.Known b) = Unit {0}
Below env t u (same_by.Enums e f) = (e < length env.classes.enums) × (f < length env.classes.enums)
Below env t u (same_by.Types p q) = (p < t) × (q < u)
Below env t u (same_by.Functions f g) = FunsBelow env t u f g
