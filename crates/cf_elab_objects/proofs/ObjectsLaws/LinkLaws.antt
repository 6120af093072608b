-- Objects with linkage, step by step.
use Rattle.std.proofs.Common.{◌≡◌, ℕ, ◌<◌, ◌≤◌, ◌^◌, Bool, true, false, not, nat_le, List, [], ◌∷◌, ◌++◌, length, Option, None, Some, slice_get, refl, sym, ap, subst, ◌∙◌, le-leb, arith}
use Rattle.cf_base.specs.declared.limit.Bound.TheVariants as bound
use Rattle.cf_types.specs.Table.{Table}
use Rattle.cf_lookup.specs.Scope.{in_scope}
use Rattle.cf_elab.specs.Answer.{Answer, Made, Refused, Passed, onward, need, changed}
use Rattle.cf_elab.specs.Complete.{within, most_name}
use Rattle.cf_elab.specs.Env.{Env, Name, Entity, object, functions, alias, class_name, enum_name, enumerator, Object}
use Rattle.cf_elab.specs.Names as names
use Rattle.cf_elab.specs.Names.{declared_here}
use Rattle.cf_elab.specs.Objects as objects
use Rattle.cf_elab.specs.Objects.{Says, variable_link}
use Rattle.cf_elab_env.specs.declared.entity.Entity.{Entity as Held}
use Rattle.cf_elab_env.specs.declared.entity.Entity.TheVariants as held
use Rattle.cf_elab_env.specs.declared.object.Object.{Object as HeldObject}
use Rattle.cf_elab_env.specs.Holds.{IsObject}
use Rattle.cf_elab_env.specs.Seen.{entity_seen, object_seen}
use Rattle.cf_elab_env.specs.Shut as made
use Rattle.cf_elab_objects.specs.Links.Shut as links
use Rattle.cf_elab_objects.specs.Objects.Shut as shut
use Rattle.cf_elab_objects.proofs.ObjectsLaws.States.{redeclared_count, found_last}

-- ---- an object once more

module _ (d : Says) (x : Object) (env : Env) where
  abbrev checked : Bool → Bool → Answer Object
  checked a b = onward (need a 8 d.at env) (λ _ e. onward (need (not b) 9 d.at e) (λ _ e. Made (objects.again d x) e))

  opened : shut.object_again d x env ≡ checked (shut.may_declare_again d x) (objects.conflicts_linkage d x)
  unfolding shut.object_again
  opened = refl

  pub may_not : shut.may_declare_again d x ≡ false → shut.object_again d x env ≡ Refused 8 d.at
  may_not may = opened ∙ ap (λ b. checked b (objects.conflicts_linkage d x)) may

  pub conflicts : shut.may_declare_again d x ≡ true → objects.conflicts_linkage d x ≡ true → shut.object_again d x env ≡ Refused 9 d.at
  conflicts may b = opened ∙ ap (λ a. checked a (objects.conflicts_linkage d x)) may ∙ ap (checked true) b

  pub once_more : (y : Object) → shut.may_declare_again d x ≡ true → objects.conflicts_linkage d x ≡ false → y ≡ objects.again d x → shut.object_again d x env ≡ Made y env
  once_more y may b is = opened ∙ ap (λ a. checked a (objects.conflicts_linkage d x)) may ∙ ap (checked true) b ∙ ap (λ y. Made y env) (sym is)

pub again_known : (types : Table) (d : Says) (x y : Object) → y ≡ objects.again d x → IsObject types x → IsObject types y
again_known types d x y is known =
    let same : IsObject types (objects.again d x) = record { typed = known.typed; number = known.number } in
    subst (IsObject types) (sym is) same

pub ruleset again_laws = (may_not, conflicts, once_more, again_known)

-- ---- what is declared under a number

module _ (d : Says) (e : ℕ) (env : Env) where
  pub of_object : (x : Object) → slice_get env.entities e ≡ Some (object x) → shut.declared_again d e env ≡ shut.object_again d x env
  unfolding shut.declared_again
  of_object x found = ap (λ o. shut.entity_again d o env) found

  pub of_other : (x : Held) → slice_get env.entities e ≡ Some (entity_seen x) → ((o : HeldObject) → x ≡ held.Object o → ⊥) → shut.declared_again d e env ≡ Refused 8 d.at
  unfolding shut.declared_again
  of_other x found other = ap (λ o. shut.entity_again d o env) found ∙ by x other
    where
      by : (x : Held) → ((o : HeldObject) → x ≡ held.Object o → ⊥) → shut.entity_again d (Some (entity_seen x)) env ≡ Refused 8 d.at
      by (held.Object o) h = absurd (h o refl)
      by (held.Functions fs) h = refl
      by (held.Alias t) h = refl
      by (held.Enum n) h = refl
      by (held.Enumerator t z) h = refl

  pub entity_is : shut.with_entity d e env ≡ onward (shut.declared_again d e env) (λ y env. onward (made.redeclare e (object y) env) (λ _ env. Made y.is_internal env))
  unfolding shut.with_entity shut.declared_again shut.object_again shut.may_declare_again made.redeclare
  entity_is = by (slice_get env.entities e)
    where
      tested : (x : Object) (a b : Bool)
          → onward (onward (need a 8 d.at env) (λ _ s. onward (need b 9 d.at s) (λ _ s. onward (made.redeclare e (object (objects.again d x)) s) (λ _ s. Made (objects.again d x) s)))) (λ (y : Object) s. Made y.is_internal s)
          ≡ onward (onward (need a 8 d.at env) (λ _ s. onward (need b 9 d.at s) (λ _ s. Made (objects.again d x) s))) (λ (y : Object) s. onward (made.redeclare e (object y) s) (λ _ s. Made y.is_internal s))
      tested x true true = refl
      tested x true false = refl
      tested x false b = refl

      by : (o : Option Entity) → onward (objects.with_entity d e o env) (λ (y : Object) s. Made y.is_internal s)
          ≡ onward (shut.entity_again d o env) (λ (y : Object) s. onward (made.redeclare e (object y) s) (λ _ s. Made y.is_internal s))
      by None = refl
      by (Some (object x)) = tested x (shut.may_declare_again d x) (not (objects.conflicts_linkage d x))
      by (Some (functions fs)) = refl
      by (Some (alias t)) = refl
      by (Some (class_name c)) = refl
      by (Some (enum_name n)) = refl
      by (Some (enumerator t z)) = refl

  pub bound_is : shut.bound_again d e env ≡ onward (shut.with_entity d e env) (λ b env. onward (made.bind_name d.name e env) (λ _ env. Made b env))
  unfolding shut.bound_again shut.with_entity made.bind_name
  bound_is = by (objects.with_entity d e (slice_get env.entities e) env)
    where
      by : (a : Answer Object) → onward (onward a (λ x s. onward (made.bind_name d.name e s) (λ _ s. Made x s))) (λ (x : Object) s. Made x.is_internal s)
          ≡ onward (onward a (λ (x : Object) s. Made x.is_internal s)) (λ b s. onward (made.bind_name d.name e s) (λ _ s. Made b s))
      by (Made x s) = refl
      by (Refused rule at) = refl
      by (Passed b most) = refl

  pub linked_elsewhere : in_scope d.name env.linked ≡ Some e → shut.from_elsewhere d env ≡ shut.bound_again d e env
  unfolding shut.from_elsewhere shut.bound_again
  linked_elsewhere h = ap (λ o. shut.internal_of (objects.from_elsewhere d o) env) h

  pub declared_there : declared_here env d.name ≡ Some e → shut.declare_linked d env ≡ shut.with_entity d e env
  unfolding shut.declare_linked shut.with_entity
  declared_there h = ap (λ o. shut.internal_of (objects.linked_object d o) env) h

pub ruleset number_laws = (of_object, of_other)

pub ruleset entity_laws = (entity_is, redeclared_count)

pub ruleset bound_laws = (bound_is)

-- ---- new objects

module _ (d : Says) (env : Env) where
  pub linked_nowhere : in_scope d.name env.linked ≡ None → shut.from_elsewhere d env ≡ shut.first_declared d env
  unfolding shut.from_elsewhere shut.first_declared
  linked_nowhere h = ap (λ o. shut.internal_of (objects.from_elsewhere d o) env) h

  pub not_there : declared_here env d.name ≡ None → shut.declare_linked d env ≡ shut.from_elsewhere d env
  unfolding shut.declare_linked shut.from_elsewhere
  not_there h = ap (λ o. shut.internal_of (objects.linked_object d o) env) h

  abbrev new_checked : Bool → Bool → Answer (Unit {0})
  new_checked a b = onward (need a 48 d.at env) (λ _. within b bound.Names most_name)

  new_opened : shut.check_new d env ≡ new_checked (shut.is_defined_somewhere env d) (nat_le (length (variable_link d.name)) most_name)
  unfolding shut.check_new shut.is_defined_somewhere
  new_opened = refl

  pub nowhere_defined : shut.is_defined_somewhere env d ≡ false → shut.check_new d env ≡ Refused 48 d.at
  nowhere_defined h = new_opened ∙ ap (λ a. new_checked a (nat_le (length (variable_link d.name)) most_name)) h

  pub name_checked : (link : List ℕ) → shut.is_defined_somewhere env d ≡ true → link ≡ variable_link d.name
      → shut.check_new d env ≡ links.name_within link env
  unfolding links.name_within
  name_checked link h is =
      new_opened ∙ ap (λ a. new_checked a (nat_le (length (variable_link d.name)) most_name)) h ∙ ap (λ l. within (nat_le (length l) most_name) bound.Names most_name env) (sym is)

pub ruleset new_laws = (nowhere_defined, name_checked)

pub ruleset elsewhere_laws = (linked_elsewhere, linked_nowhere)

pub ruleset declare_laws = (declared_there, not_there)

module _ (name : Name) (env : Env) where
  pub noted_none : declared_here env name ≡ None → shut.note_linkage name env ≡ Made tt env
  unfolding shut.note_linkage
  noted_none h = ap (λ o. shut.noted name o env) h

  pub noted_some : (n : ℕ) → declared_here env name ≡ Some n → shut.note_linkage name env ≡ Made tt (record env { linked = env.linked ++ (name, n) ∷ [] })
  unfolding shut.note_linkage
  noted_some n h = ap (λ o. shut.noted name o env) h

pub ruleset note_laws = (noted_none, noted_some)

module _ (d : Says) (env : Env) where
  abbrev declared : Env
  declared = record env {
    entities = env.entities ++ object (objects.new_object env d) ∷ [];
    scopes = record env.scopes { inner = env.scopes.inner ++ (d.name, length env.entities) ∷ [] };
  }

  abbrev linked : Env
  linked = record declared { linked = env.linked ++ (d.name, length env.entities) ∷ [] }

  noted : declared_here env d.name ≡ None → shut.note_linkage d.name declared ≡ Made tt linked
  noted fresh = noted_some d.name declared (length env.entities) (found_last d.name (length env.entities) env.scopes.inner fresh)

  abbrev steps : Unit {0} → Env → Answer Bool
  steps u s = onward (made.declare d.name (object (objects.new_object s d)) s) (λ _ t. onward (shut.note_linkage d.name t) (λ _ t. Made (objects.says_internal s d) t))

  abbrev after : Env → Answer Object
  after s =
      onward (names.declare d.name (object (objects.new_object env d)) s)
      (λ _ s. onward (changed (λ e. record e { linked = e.linked ++ (d.name, length env.entities) ∷ [] }) s) (λ _ s. Made (objects.new_object env d) s))

  by_tests : (a b : Bool) → declared_here env d.name ≡ None
      → onward (onward (need a 48 d.at env) (λ _ s. onward (within b bound.Names most_name s) (λ _. after))) (λ (x : Object) s. Made x.is_internal s)
      ≡ onward (onward (need a 48 d.at env) (λ _. within b bound.Names most_name)) steps
  unfolding made.declare
  by_tests false b fresh = refl
  by_tests true false fresh = refl
  by_tests true true fresh = sym (ap (λ (a : Answer (Unit {0})). onward a (λ _ t. Made (objects.says_internal env d) t)) (noted fresh))

  pub first_is : declared_here env d.name ≡ None
      → shut.first_declared d env
      ≡ onward (shut.check_new d env) (λ _ s. onward (made.declare d.name (object (objects.new_object s d)) s) (λ _ t. onward (shut.note_linkage d.name t) (λ _ t. Made (objects.says_internal s d) t)))
  unfolding shut.first_declared shut.is_defined_somewhere
  first_is fresh = by_tests (shut.is_defined_somewhere env d) (nat_le (length (variable_link d.name)) most_name) fresh ∙ ap (λ a. onward a steps) (sym (new_opened d env))

pub ruleset first_laws = (first_is)
