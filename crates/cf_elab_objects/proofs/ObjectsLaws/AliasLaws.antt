-- Type names.
use Rattle.std.proofs.Common.{◌≡◌, ℕ, Bool, true, false, Option, None, Some, slice_get, nat_eq, refl, sym, ap, ◌∙◌}
use Rattle.cf_types.specs.declared.ty.Ty.{Ty}
use Rattle.cf_types.specs.declared.ty.Ty.TheVariants as ty
use Rattle.cf_convert.specs.Constness.{type_at}
use Rattle.cf_elab.specs.Answer.{Answer, Made, Refused, need}
use Rattle.cf_elab.specs.Declaration as declaration
use Rattle.cf_elab.specs.Env.{Env, Name, Entity, alias, enum_name}
use Rattle.cf_elab.specs.Made.{same_ty}
use Rattle.cf_elab.specs.Names.{declared_here}
use Rattle.cf_elab_env.specs.declared.entity.Entity.{Entity as Held}
use Rattle.cf_elab_env.specs.declared.entity.Entity.TheVariants as held
use Rattle.cf_elab_env.specs.Seen.{entity_seen}
use Rattle.cf_elab_env.specs.Shut as made
use Rattle.cf_elab_objects.specs.Objects.Shut as shut

same_enum : (v : Ty) (e : ℕ) → same_ty v (ty.Enum e) ≡ shut.is_enum v e
same_enum ty.Void e = refl
same_enum (ty.Int k) e = refl
same_enum (ty.Enum f) e = refl
same_enum (ty.Class c) e = refl
same_enum (ty.Ptr t) e = refl
same_enum (ty.Ref t) e = refl
same_enum (ty.Array t n) e = refl
same_enum (ty.Fun f) e = refl
same_enum (ty.MemData c t) e = refl
same_enum (ty.MemFun c f) e = refl
same_enum (ty.Const t) e = refl

module _ (env : Env) (t : ℕ) (x : Held) where
  pub is_alias : (u : ℕ) (b : Bool) → x ≡ held.Alias u → b ≡ (nat_eq t u) → b ≡ shut.is_same env t (entity_seen x)
  unfolding shut.is_same
  is_alias u b is h = h ∙ sym (ap (λ x. declaration.same_alias env t (Some (entity_seen x))) is)

  pub is_enumeration : (e : ℕ) (b : Bool) → x ≡ held.Enum e → b ≡ shut.is_enum (type_at env.types t) e → b ≡ shut.is_same env t (entity_seen x)
  unfolding shut.is_same
  is_enumeration e b is h = h ∙ sym (same_enum (type_at env.types t) e) ∙ sym (ap (λ x. declaration.same_alias env t (Some (entity_seen x))) is)

  pub is_neither : ((u : ℕ) → x ≡ held.Alias u → ⊥) → ((e : ℕ) → x ≡ held.Enum e → ⊥) → false ≡ shut.is_same env t (entity_seen x)
  unfolding shut.is_same
  is_neither no_alias no_enum = by x no_alias no_enum
    where
      by : (x : Held) → ((u : ℕ) → x ≡ held.Alias u → ⊥) → ((e : ℕ) → x ≡ held.Enum e → ⊥) → false ≡ declaration.same_alias env t (Some (entity_seen x))
      by (held.Object o) a e = refl
      by (held.Functions fs) a e = refl
      by (held.Alias u) a e = absurd (a u refl)
      by (held.Enum n) a e = absurd (e n refl)
      by (held.Enumerator u z) a e = refl

pub ruleset alias_laws = (is_alias, is_enumeration, is_neither)

module _ (e at t : ℕ) (env : Env) where
  abbrev tested : Option Entity → Answer (Unit {0})
  tested o = need (declaration.same_alias env t o) 8 at env

  pub same_found : (x : Entity) → slice_get env.entities e ≡ Some x → shut.is_same env t x ≡ true → shut.check_same e at t env ≡ Made tt env
  unfolding shut.check_same shut.is_same
  same_found x found is = ap tested found ∙ ap (λ b. need b 8 at env) is

  pub other_found : (x : Entity) → slice_get env.entities e ≡ Some x → shut.is_same env t x ≡ false → shut.check_same e at t env ≡ Refused 8 at
  unfolding shut.check_same shut.is_same
  other_found x found is = ap tested found ∙ ap (λ b. need b 8 at env) is

pub ruleset same_laws = (same_found, other_found)

module _ (name : Name) (at t : ℕ) (env : Env) where
  pub new_alias : declared_here env name ≡ None → shut.aliased name at t env ≡ made.declare name (alias t) env
  unfolding shut.aliased made.declare
  new_alias h = ap (λ o. declaration.aliased name at t o env) h

  pub old_alias : (e : ℕ) → declared_here env name ≡ Some e → shut.aliased name at t env ≡ shut.check_same e at t env
  unfolding shut.aliased shut.check_same
  old_alias e h = ap (λ o. declaration.aliased name at t o env) h

pub ruleset aliased_laws = (new_alias, old_alias)

pub none_there : (w : Option ℕ) (env : Env) → w ≡ None → shut.no_initialiser w env ≡ Made tt env
unfolding shut.no_initialiser
none_there w env h = ap (λ w. shut.no_initialiser w env) h

pub one_there : (w : Option ℕ) (at : ℕ) (env : Env) → w ≡ Some at → shut.no_initialiser w env ≡ Refused 28 at
unfolding shut.no_initialiser
one_there w at env h = ap (λ w. shut.no_initialiser w env) h

pub ruleset initialiser_laws = (none_there, one_there)
