-- A name by itself, and a path that is one name.
use Rattle.std.proofs.Common.{◌≡◌, ℕ, Bool, true, false, List, [], ◌∷◌, slice_get, Option, None, Some, refl, sym, ap, ◌∙◌}
use Rattle.cf_syntax.specs.declared.name.Path.{Path}
use Rattle.cf_elab.specs.Answer.{Answer, Refused}
use Rattle.cf_elab.specs.Built.{of_path}
use Rattle.cf_elab.specs.Env.{Env, Name, Entity, object, functions, alias, class_name, enum_name, enumerator}
use Rattle.cf_elab.specs.Names.{type_of_entity, entity_of}
use Rattle.cf_elab.specs.Paths.{type_at_path, keyed_type, type_found, found_alone, type_behind_key, entity}
use Rattle.cf_lookup.specs.Scope.{found}
use Rattle.cf_elab_env.specs.Holds.{IsEnv}
use Rattle.cf_elab_env.proofs.Finding.{found-alone}
use Rattle.cf_elab_env.proofs.Growth.{grown_laws}
use Rattle.cf_elab_specifiers.specs.Named.Named.{type_entity, if_type, found_as}
use Rattle.cf_elab_specifiers.specs.Named.Shut as shut

-- an entity that is no type is K10
pub by_type : (at : ℕ) (o : Option Entity) (env : Env) → type_of_entity at o env ≡ (elim (if_type o) [ None ↦ Refused 10 at | Some e ↦ type_of_entity 0 (Some e) env ])
by_type at None env = refl
by_type at (Some (object x)) env = refl
by_type at (Some (functions fs)) env = refl
by_type at (Some (alias t)) env = refl
by_type at (Some (class_name c)) env = refl
by_type at (Some (enum_name e)) env = refl
by_type at (Some (enumerator t z)) env = refl

pub answered : (at : ℕ) (o : Option Entity) (env : Env) (e : Entity) → if_type o ≡ Some e → type_of_entity at o env ≡ type_of_entity 0 (Some e) env
answered at o env e is = by_type at o env ∙ ap (λ o. elim o as (λ _. Answer ℕ) [ None ↦ Refused 10 at | Some e ↦ type_of_entity 0 (Some e) env ]) is

pub broken : (at : ℕ) (o : Option Entity) (env : Env) → if_type o ≡ None → type_of_entity at o env ≡ Refused 10 at
broken at o env is = by_type at o env ∙ ap (λ o. elim o as (λ _. Answer ℕ) [ None ↦ Refused 10 at | Some e ↦ type_of_entity 0 (Some e) env ]) is

module _ (at : ℕ) (name : Name) (env : Env) (holds : IsEnv env) where
  alone : found_alone env false name ≡ entity (entity_of env (found name env.scopes))
  alone = found-alone env name holds.no_open_class holds.hand.no_class

  pub type_named_is : (e : Entity) → Some e ≡ found_as env name → shut.type_named at name env ≡ shut.type_of e env
  unfolding shut.type_named shut.type_of found_as
  type_named_is e is = ap (λ f. type_found at f env) alone ∙ answered at (entity_of env (found name env.scopes)) env e (sym is)

  pub no_type_named : None ≡ found_as env name → shut.type_named at name env ≡ Refused 10 at
  unfolding shut.type_named found_as
  no_type_named is = ap (λ f. type_found at f env) alone ∙ broken at (entity_of env (found name env.scopes)) env (sym is)

module _ (env : Env) (name : Name) (holds : IsEnv env) where
  found_is : (o : Option Entity) → found_alone env false name ≡ entity o → if_type o ≡ found_as env name
  unfolding found_as
  found_is o is =
      let alone = found-alone env name holds.no_open_class holds.hand.no_class in
      let same : o ≡ entity_of env (found name env.scopes) = cc in
      ap if_type same

  pub found_some : (e : Entity) → found_alone env false name ≡ entity (Some e) → type_entity e ≡ found_as env name
  found_some e is = found_is (Some e) is

  pub found_none : found_alone env false name ≡ entity None → None ≡ found_as env name
  found_none is = found_is None is

module _ (path : Path) (env : Env) (built : of_path path ≡ None) where
  pub path_is : (name : Name) → Some name ≡ slice_get path.names 0 → shut.type_at_path path env ≡ shut.type_named path.at name env
  unfolding shut.type_at_path shut.type_named
  path_is name is = by path.from_file path.names built is
    where
      by : (f : Bool) (ns : List Name) → of_path (record path { from_file = f; names = ns }) ≡ None → Some name ≡ slice_get ns 0
          → type_at_path (record path { from_file = f; names = ns }) env ≡ type_found path.at (found_alone env false name) env
      by true ns b is = cc
      by false [] b is = cc
      by false (n ∷ m ∷ rest) b is = cc
      by false (n ∷ []) b is = let same : n ≡ name = cc in ap (λ n. type_found path.at (found_alone env false n) env) same

  pub no_path : None ≡ slice_get path.names 0 → shut.type_at_path path env ≡ Refused 10 path.at
  unfolding shut.type_at_path
  no_path is = by path.names is
    where
      by : (ns : List Name) → None ≡ slice_get ns 0 → type_at_path (record path { names = ns }) env ≡ Refused 10 path.at
      by [] is = refl
      by (n ∷ ns) is = cc

  pub keyed_is : (name : Name) → Some name ≡ slice_get path.names 0 → shut.keyed_type path env ≡ shut.keyed_named path.at name env
  unfolding shut.keyed_type shut.keyed_named
  keyed_is name is = by path.from_file path.names built is
    where
      by : (f : Bool) (ns : List Name) → of_path (record path { from_file = f; names = ns }) ≡ None → Some name ≡ slice_get ns 0
          → keyed_type (record path { from_file = f; names = ns }) env ≡ type_found path.at (type_behind_key env false name) env
      by true ns b is = cc
      by false [] b is = cc
      by false (n ∷ m ∷ rest) b is = cc
      by false (n ∷ []) b is = let same : n ≡ name = cc in ap (λ n. type_found path.at (type_behind_key env false n) env) same

  pub no_keyed : None ≡ slice_get path.names 0 → shut.keyed_type path env ≡ Refused 10 path.at
  unfolding shut.keyed_type
  no_keyed is = by path.names is
    where
      by : (ns : List Name) → None ≡ slice_get ns 0 → keyed_type (record path { names = ns }) env ≡ Refused 10 path.at
      by [] is = refl
      by (n ∷ ns) is = cc

pub ruleset named_laws = (type_named_is, no_type_named, grown_laws)

pub ruleset found_laws = (found_some, found_none)

pub ruleset path_laws = (path_is, no_path, grown_laws)

pub ruleset keyed_laws = (keyed_is, no_keyed, grown_laws)
