-- Entities that are types, and the types that they are.
use Rattle.std.proofs.Common.{◌≡◌, ℕ, ◌<◌, [], length, All, None, Some, refl, ap, subst, arith}
use Rattle.cf_types.specs.declared.ty.Ty.TheVariants as ty
use Rattle.cf_types.specs.Table.{Table, Names}
use Rattle.cf_elab.specs.Answer.{Made}
use Rattle.cf_elab.specs.Env.{Env, alias, enum_name}
use Rattle.cf_elab.specs.Names.{type_of_entity}
use Rattle.cf_elab_env.specs.Holds.{IsEntity, IsType}
use Rattle.cf_elab_env.specs.Seen.{entity_seen}
use Rattle.cf_elab_env.specs.declared.entity.Entity.{Entity as FoundEntity}
use Rattle.cf_elab_env.specs.declared.entity.Entity.TheVariants as found
use Rattle.cf_elab_env.specs.Shut as made
use Rattle.cf_elab_env.proofs.Growth.{grown_laws}
use Rattle.cf_elab_specifiers.specs.Named.Named.{name_seen, type_entity}
use Rattle.cf_elab_specifiers.specs.declared.named.type_name.TypeName.{TypeName}
use Rattle.cf_elab_specifiers.specs.declared.named.type_name.TypeName.TheVariants as name
use Rattle.cf_elab_specifiers.specs.Named.Shut as shut

module _ (e : FoundEntity) where
  pub alias_is : (t : ℕ) → e ≡ found.Alias t → type_entity (entity_seen e) ≡ Some (alias t)
  alias_is t is = ap (λ e. type_entity (entity_seen e)) is

  pub enum_is : (m : ℕ) → e ≡ found.Enum m → type_entity (entity_seen e) ≡ Some (enum_name m)
  enum_is m is = ap (λ e. type_entity (entity_seen e)) is

  pub no_type : ((t : ℕ) → e ≡ found.Alias t → ⊥) → ((m : ℕ) → e ≡ found.Enum m → ⊥) → None ≡ type_entity (entity_seen e)
  no_type no_alias no_enum = by e no_alias no_enum
    where
      by : (e : FoundEntity) → ((t : ℕ) → e ≡ found.Alias t → ⊥) → ((m : ℕ) → e ≡ found.Enum m → ⊥) → None ≡ type_entity (entity_seen e)
      by (found.Object x) a m = refl
      by (found.Functions fs) a m = refl
      by (found.Alias t) a m = absurd (a t refl)
      by (found.Enum n) a m = absurd (m n refl)
      by (found.Enumerator t z) a m = refl

  pub alias_known : (types : Table) (count t : ℕ) → e ≡ found.Alias t → IsEntity types count (entity_seen e) → IsEntity types count (alias t)
  alias_known types count t is known = subst (λ e. IsEntity types count (entity_seen e)) is known

module _ (n : TypeName) (env : Env) where
  pub alias_made : (t : ℕ) → n ≡ name.Alias t → shut.type_of (name_seen n) env ≡ Made t env
  unfolding shut.type_of
  alias_made t is = ap (λ n. type_of_entity 0 (Some (name_seen n)) env) is

  pub enum_made : (m : ℕ) → n ≡ name.Enum m → shut.type_of (name_seen n) env ≡ made.intern (ty.Enum m) env
  unfolding shut.type_of made.intern
  enum_made m is = ap (λ n. type_of_entity 0 (Some (name_seen n)) env) is

pub name_known : (types : Table) (count : ℕ) (n : TypeName) (t : ℕ) → n ≡ name.Alias t → IsEntity types count (name_seen n) → IsType types t
name_known types count n t is known = subst (λ n. IsEntity types count (name_seen n)) is known

-- an enumeration names no type
none_below : (n : ℕ) → All (λ p. p < n) []
none_below n = λ i d w. absurd (omega arith)

pub names_enum : (types : Table) (m : ℕ) → Names types.funs (length types.types) (length types.funs) (ty.Enum m)
names_enum types m = record { parts_known = none_below (length types.types); fun_known = none_below (length types.funs) }

pub ruleset type_laws = (alias_is, enum_is, no_type, alias_known)

pub ruleset made_laws = (alias_made, enum_made, name_known, grown_laws)
