-- The numbers of const objects.
use Rattle.std.proofs.Common.{◌≡◌, ℕ, ℤ, Option, None, Some, slice_get, refl, sym, ap, subst, ◌∙◌}
use Rattle.cf_types.specs.Table.{Table}
use Rattle.cf_elab.specs.Answer.{Answer, Made}
use Rattle.cf_elab.specs.Env.{Env, Name, Entity, object, Object}
use Rattle.cf_elab.specs.Names.{declared_here}
use Rattle.cf_elab.specs.Objects as objects
use Rattle.cf_elab_env.specs.declared.entity.Entity.{Entity as Held}
use Rattle.cf_elab_env.specs.declared.entity.Entity.TheVariants as held
use Rattle.cf_elab_env.specs.declared.object.Object.{Object as HeldObject}
use Rattle.cf_elab_env.specs.Holds.{IsObject, FitsIn}
use Rattle.cf_elab_env.specs.Seen.{entity_seen}
use Rattle.cf_elab_env.specs.Shut as made
use Rattle.cf_elab_objects.specs.Objects.Shut as shut
use Rattle.cf_elab_objects.proofs.ObjectsLaws.States.{replaced_same}

module _ (name : Name) (z : Option ℤ) (env : Env) where
  pub not_declared : declared_here env name ≡ None → shut.number_known name z env ≡ Made tt env
  unfolding shut.number_known
  not_declared h = rw h refl

  pub declared_as : (e : ℕ) → declared_here env name ≡ Some e → shut.number_known name z env ≡ shut.set_number e z env
  unfolding shut.number_known shut.set_number
  declared_as e h = rw h refl

pub ruleset known_laws = (not_declared, declared_as)

module _ (e : ℕ) (z : Option ℤ) (env : Env) where
  pub of_object : (x y : Object) (r : Answer (Unit {0})) → slice_get env.entities e ≡ Some (object x) → y ≡ record x { number = z } → made.redeclare e (object y) env ≡ r
      → shut.set_number e z env ≡ r
  unfolding shut.set_number made.redeclare
  of_object x y r found is h = ap (λ o. objects.set_entity e (objects.with_number z o) env) found ∙ ap (λ y. made.redeclare e (object y) env) (sym is) ∙ h

  pub of_other : (x : Held) → slice_get env.entities e ≡ Some (entity_seen x) → ((o : HeldObject) → x ≡ held.Object o → ⊥) → shut.set_number e z env ≡ Made tt env
  unfolding shut.set_number
  of_other x found other =
      ap (λ o. objects.set_entity e (objects.with_number z o) env) found ∙ by x other ∙ ap (λ l. Made tt (record env { entities = l })) (replaced_same env.entities e (entity_seen x) found)
    where
      by : (x : Held) → ((o : HeldObject) → x ≡ held.Object o → ⊥)
          → objects.set_entity e (objects.with_number z (Some (entity_seen x))) env ≡ objects.set_entity e (Some (entity_seen x)) env
      by (held.Object o) h = absurd (h o refl)
      by (held.Functions fs) h = refl
      by (held.Alias t) h = refl
      by (held.Enum n) h = refl
      by (held.Enumerator t w) h = refl

pub numbered_known : (types : Table) (x y : Object) (t : ℕ) (z : Option ℤ) → y ≡ record x { number = z } → x.type ≡ t → IsObject types x → FitsIn types t z → IsObject types y
numbered_known types x y t z is typed known fits =
    let same : IsObject types (record x { number = z }) = record { typed = known.typed; number = subst (λ t. FitsIn types t z) (sym typed) fits } in
    subst (IsObject types) (sym is) same

pub ruleset set_laws = (of_object, of_other, numbered_known)
