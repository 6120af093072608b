-- What a name is as an operand, by what it is found as.
use Rattle.std.proofs.Common.{◌≡◌, ℕ, ℤ, Bool, true, false, List, [], ◌∷◌, Option, None, Some, sym, ap, subst, ◌∙◌}
use Rattle.cf_syntax.specs.declared.name.Last.{Last}
use Rattle.cf_syntax.specs.declared.name.Last.TheVariants as last
use Rattle.cf_syntax.specs.declared.name.Name.{Name as WrittenName}
use Rattle.cf_types.specs.Table.{Table}
use Rattle.cf_elab.specs.Answer.{Made, Refused}
use Rattle.cf_elab.specs.Built.{of_name}
use Rattle.cf_elab.specs.Env.{Env, Name, Entity}
use Rattle.cf_elab.specs.Names as names
use Rattle.cf_elab.specs.Operand.{Value, value}
use Rattle.cf_elab.specs.Paths.{named, operand_found, found_alone, entity as entity_found}
use Rattle.cf_elab_env.specs.Holds.{Known, FitsIn, IsEntity, IsObject}
use Rattle.cf_elab_env.specs.Seen.{entity_seen, object_seen}
use Rattle.cf_elab_env.specs.declared.entity.Entity.{Entity as FoundEntity}
use Rattle.cf_elab_env.specs.declared.entity.Entity.TheVariants as found
use Rattle.cf_elab_env.specs.declared.object.Object.{Object as FoundObject}
use Rattle.cf_elab_operand.specs.Shut as shut

-- an identifier by itself
pub named_is : (n : WrittenName) (name : Name) (env : Env) → of_name n ≡ None → n.last ≡ last.Ident name → shut.named n env ≡ shut.operand_named n.last_at name env
unfolding shut.named shut.operand_named
named_is n name env built is = by n.from_file n.scopes n.last built is
  where
    by : (f : Bool) (ss : List Name) (l : Last) → of_name (record n { from_file = f; scopes = ss; last = l }) ≡ None → l ≡ last.Ident name
        → named (record n { from_file = f; scopes = ss; last = l }) env ≡ operand_found n.last_at (found_alone env false name) env
    by true ss l built is = cc
    by false (s ∷ rest) l built is = cc
    by false [] l built is = ap (λ l. operand_found n.last_at (found_alone env false (names.key l)) env) is

module _ (at : ℕ) (name : Name) (env : Env) where
  pub found_is : (e : Entity) → found_alone env false name ≡ entity_found (Some e) → shut.operand_named at name env ≡ shut.operand_of at e env
  unfolding shut.operand_named shut.operand_of
  found_is e h = ap (λ f. operand_found at f env) h

  pub not_found : found_alone env false name ≡ entity_found None → shut.operand_named at name env ≡ Refused 10 at
  unfolding shut.operand_named
  not_found h = ap (λ f. operand_found at f env) h

module _ (at : ℕ) (e : FoundEntity) (env : Env) where
  pub object_is : (x : FoundObject) (v : Value) → e ≡ found.Object x → v ≡ names.object_value env at (object_seen x) → shut.operand_of at (entity_seen e) env ≡ Made (value v) env
  unfolding shut.operand_of
  object_is x v is made = ap (λ e. names.operand_of at (Some (entity_seen e)) env) is ∙ ap (λ v. Made (value v) env) (sym made)

  pub functions_are : (fs : List ℕ) → e ≡ found.Functions fs → shut.operand_of at (entity_seen e) env ≡ shut.functions_of at fs env
  unfolding shut.operand_of shut.functions_of
  functions_are fs is = ap (λ e. names.operand_of at (Some (entity_seen e)) env) is

  pub enumerator_is : (t : ℕ) (z : Option ℤ) (v : Value) → e ≡ found.Enumerator t z → v ≡ names.enumerator_value at t z → shut.operand_of at (entity_seen e) env ≡ Made (value v) env
  unfolding shut.operand_of
  enumerator_is t z v is made = ap (λ e. names.operand_of at (Some (entity_seen e)) env) is ∙ ap (λ v. Made (value v) env) (sym made)

  pub alias_is : (t : ℕ) → e ≡ found.Alias t → shut.operand_of at (entity_seen e) env ≡ Refused 10 at
  unfolding shut.operand_of
  alias_is t is = ap (λ e. names.operand_of at (Some (entity_seen e)) env) is

  pub enum_is : (m : ℕ) → e ≡ found.Enum m → shut.operand_of at (entity_seen e) env ≡ Refused 10 at
  unfolding shut.operand_of
  enum_is m is = ap (λ e. names.operand_of at (Some (entity_seen e)) env) is

module _ (types : Table) (count : ℕ) (e : FoundEntity) (known : IsEntity types count (entity_seen e)) where
  pub object_known : (x : FoundObject) → e ≡ found.Object x → IsObject types (object_seen x)
  object_known x is = subst (λ e. IsEntity types count (entity_seen e)) is known

  pub enumerator_known : (at t : ℕ) (z : Option ℤ) (v : Value) → e ≡ found.Enumerator t z → v ≡ names.enumerator_value at t z → Known types v
  enumerator_known at t z v is made =
      let k = subst (λ e. IsEntity types count (entity_seen e)) is known in subst (Known types) (sym made) (by z k.1)
    where
      by : (z : Option ℤ) → FitsIn types t z → Known types (names.enumerator_value at t z)
      by None f = record { typed = (subst (λ e. IsEntity types count (entity_seen e)) is known).0; number = tt }
      by (Some w) f = record { typed = (subst (λ e. IsEntity types count (entity_seen e)) is known).0; number = f }

pub ruleset named_laws = (named_is)

pub ruleset found_laws = (found_is, not_found)

pub ruleset entity_laws = (object_is, functions_are, enumerator_is, alias_is, enum_is, object_known, enumerator_known)
