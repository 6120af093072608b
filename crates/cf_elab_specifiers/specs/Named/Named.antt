-- Entities that are types.
use Rattle.std.specs.Prelude.{ℕ, List, find, Option, None, Some, slice_get}
use Rattle.cf_lookup.specs.Scope.{found}
use Rattle.cf_elab.specs.Env.{Env, Name, Entity, alias, class_name, enum_name}
use Rattle.cf_elab.specs.Names.{entity_of}
use Rattle.cf_elab.specs.Paths.{is_type}
use Rattle.cf_elab_specifiers.specs.declared.named.type_name.TypeName.{TypeName}
use Rattle.cf_elab_specifiers.specs.declared.named.type_name.TypeName.TheVariants as name

abbrev pub name_seen : TypeName → Entity
name_seen (name.Alias t) = alias t
name_seen (name.Enum e) = enum_name e

-- the entity, if it is a type
abbrev pub type_entity : Entity → Option Entity
type_entity (alias t) = Some (alias t)
type_entity (class_name c) = Some (class_name c)
type_entity (enum_name e) = Some (enum_name e)
type_entity other = None

abbrev pub if_type : Option Entity → Option Entity
if_type None = None
if_type (Some e) = type_entity e

-- what a name is found as, if it is a type
unfoldable pub found_as : Env → Name → Option Entity
found_as env name = if_type (entity_of env (found name env.scopes))

-- the first of these entities that is a type
unfoldable pub first_type : Env → List ℕ → Option Entity
first_type env numbers = entity_of env (find (λ n. is_type (slice_get env.entities n)) numbers)
