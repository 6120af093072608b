-- The rows that this crate does, each under a name of its own that does not unfold. `Rattle.cf_elab_objects.proofs.ObjectsLaws` says what each is.
use Rattle.std.specs.Prelude.{ℕ, Bool, true, false, not, ◌==◌, ◌&&◌, ◌||◌, List, [], ◌∷◌, ◌++◌, ℤ, Option, None, Some, slice_get, bytes_eq}
use Rattle.std.specs.List.{list_any}
use Rattle.cf_types.specs.declared.ty.Ty.{Ty}
use Rattle.cf_types.specs.declared.ty.Ty.TheVariants as ty
use Rattle.cf_elab.specs.Answer.{Elab, ◌>>=◌, ◌>>◌, gives, done, breaks, need, none_at, known, changed}
use Rattle.cf_elab.specs.Complete.{name_within}
use Rattle.cf_elab.specs.Declaration as declaration
use Rattle.cf_elab.specs.Env.{Env, Name, Entity, object, Object}
use Rattle.cf_elab.specs.Made.{same_ty}
use Rattle.cf_elab.specs.Names.{declared_here, bind_name}
use Rattle.cf_elab.specs.Objects as objects
use Rattle.cf_elab.specs.Objects.{Says}

-- ---- objects with linkage

-- of an object what a definition asks of it: whether its name is local to the file
abbrev pub internal_of : Elab Object → Elab Bool
internal_of run = run >>= (λ x. gives x.is_internal)

unfoldable pub may_declare_again : Says → Object → Bool
may_declare_again d x = objects.is_static_home x.home && (x.type == d.type) && not (x.is_defined && d.defines)

unfoldable pub object_again : Says → Object → Elab Object
object_again d x = do
  need (may_declare_again d x) 8 d.at
  need (not (objects.conflicts_linkage d x)) 9 d.at
  gives (objects.again d x)

abbrev pub entity_again : Says → Option Entity → Elab Object
entity_again d (Some (object x)) = object_again d x
entity_again d other = breaks 8 d.at

unfoldable pub declared_again : Says → ℕ → Elab Object
declared_again d e = known >>= (λ env. entity_again d (slice_get env.entities e))

unfoldable pub with_entity : Says → ℕ → Elab Bool
with_entity d e = internal_of (known >>= (λ env. objects.with_entity d e (slice_get env.entities e)))

unfoldable pub is_defined_somewhere : Env → Says → Bool
is_defined_somewhere env d = env.extent.elsewhere || d.defines || d.is_initialised || list_any (bytes_eq d.name) env.defines

unfoldable pub check_new : Says → Elab (Unit {0})
check_new d = do
  env ← known
  objects.need_definition env d
  name_within (objects.variable_link d.name)

abbrev pub noted : Name → Option ℕ → Elab (Unit {0})
noted name None = done
noted name (Some n) = changed (λ env. record env { linked = env.linked ++ (name, n) ∷ [] })

unfoldable pub note_linkage : Name → Elab (Unit {0})
note_linkage name = known >>= (λ env. noted name (declared_here env name))

unfoldable pub first_declared : Says → Elab Bool
first_declared d = internal_of (objects.first_declared d)

unfoldable pub bound_again : Says → ℕ → Elab Bool
bound_again d e = internal_of (objects.from_elsewhere d (Some e))

unfoldable pub from_elsewhere : Says → Elab Bool
from_elsewhere d = internal_of (objects.linked_object d None)

unfoldable pub declare_linked : Says → Elab Bool
declare_linked d = internal_of (objects.declare_linked d)

-- ---- objects of a block, and numbers of const objects

unfoldable pub declare_in_block : Name → ℕ → Object → Elab (Unit {0})
declare_in_block = objects.declare_in_block

unfoldable pub set_number : ℕ → Option ℤ → Elab (Unit {0})
set_number e z = known >>= (λ env. objects.set_entity e (objects.with_number z (slice_get env.entities e)))

unfoldable pub number_known : Name → Option ℤ → Elab (Unit {0})
number_known = objects.number_known

-- ---- type names

abbrev pub is_enum : Ty → ℕ → Bool
is_enum (ty.Enum e) f = e == f
is_enum other f = false

unfoldable pub is_same : Env → ℕ → Entity → Bool
is_same env t x = declaration.same_alias env t (Some x)

unfoldable pub check_same : ℕ → ℕ → ℕ → Elab (Unit {0})
check_same e at t = known >>= (λ env. need (declaration.same_alias env t (slice_get env.entities e)) 8 at)

unfoldable pub aliased : Name → ℕ → ℕ → Elab (Unit {0})
aliased name at t = known >>= (λ env. declaration.aliased name at t (declared_here env name))

-- where an initialiser stands that may not
unfoldable pub no_initialiser : Option ℕ → Elab (Unit {0})
no_initialiser w = none_at w 28
