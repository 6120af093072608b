-- A type behind its key is the first type among all that the name is declared as.
use Rattle.std.proofs.Common.{◌≡◌, ℕ, zero, suc, Bool, true, false, cond, List, [], ◌∷◌, ◌++◌, length, map, filter, find, slice_get, Option, None, Some, nat_eq, refl, sym, ap, ◌∙◌, arith}
use Rattle.std.specs.Option.{option_or}
use Rattle.std.specs.Cmp.Lexicographic.{pointwise}
use Rattle.cf_classes.specs.ClassTable.{ClassTable}
use Rattle.cf_lookup.specs.Scope.{OpenScopes, all_found, all_in, named_in, found_in, in_scope}
use Rattle.cf_elab.specs.Answer.{Refused}
use Rattle.cf_elab.specs.Env.{Env, Name, Entity, object, functions, alias, class_name, enum_name, enumerator}
use Rattle.cf_elab.specs.Members.{outwards, classes_around, class_of_body, innermost}
use Rattle.cf_elab.specs.Names.{entity_of, file_names}
use Rattle.cf_elab.specs.Paths.{entity, is_type, types_in, block_scopes, type_around, around_or_type_of_file, type_behind_key, type_found}
use Rattle.cf_elab_env.specs.Holds.{IsEnv}
use Rattle.cf_elab_env.proofs.Growth.{grown_laws}
use Rattle.cf_elab_specifiers.specs.Named.Named.{type_entity, if_type, first_type}
use Rattle.cf_elab_specifiers.specs.Named.Shut as shut
use Rattle.cf_elab_specifiers.proofs.NamedLaws.PathLaws.{answered, broken}

-- ---- lists of scopes

find-append : {A : Type 0} (p : A → Bool) (xs ys : List A) → find p (xs ++ ys) ≡ option_or (find p xs) (find p ys)
find-append p [] ys = refl
find-append p (x ∷ xs) ys = by (p x) (find-append p xs ys)
  where
    by : (b : Bool) → find p (xs ++ ys) ≡ option_or (find p xs) (find p ys) → cond b (Some x) (find p (xs ++ ys)) ≡ option_or (cond b (Some x) (find p xs)) (find p ys)
    by true rest = refl
    by false rest = rest

module _ (p : ℕ → Bool) (name : Name) where
  abbrev wanted : List (Name × ℕ) → List (Name × ℕ)
  wanted scope = filter (λ (x : Name × ℕ). p x.1) scope

  abbrev called : List (Name × ℕ) → List (Name × ℕ)
  called scope = filter (λ (x : Name × ℕ). pointwise nat_eq name x.0) scope

  in_one : (scope : List (Name × ℕ)) → in_scope name (wanted scope) ≡ find p (named_in name scope)
  in_one [] = refl
  in_one (x ∷ rest) = by (p x.1) (pointwise nat_eq name x.0) refl refl (in_one rest)
    where
      by : (b c : Bool) → p x.1 ≡ b → pointwise nat_eq name x.0 ≡ c → in_scope name (wanted rest) ≡ find p (named_in name rest)
          → in_scope name (cond b (x ∷ wanted rest) (wanted rest)) ≡ find p (map (λ (x : Name × ℕ). x.1) (cond c (x ∷ called rest) (called rest)))
      by true true e f h = rw (e, f) refl
      by true false e f h = rw f h
      by false true e f h = rw e h
      by false false e f h = h

  in_all : (scopes : List (List (Name × ℕ))) → found_in name (map wanted scopes) ≡ find p (all_in name scopes)
  in_all [] = refl
  in_all (scope ∷ inner) =
      ap (λ o. option_or o (in_scope name (wanted scope))) (in_all inner) ∙ ap (option_or (find p (all_in name inner))) (in_one scope)
      ∙ sym (find-append p (all_in name inner) (named_in name scope))

  -- the blocks, and then the file
  blocks_then_file : (outer : List (List (Name × ℕ))) (inner : List (Name × ℕ))
      → let scopes : OpenScopes = record { outer = outer; inner = inner } in
      option_or (found_in name (map wanted (block_scopes scopes))) (in_scope name (wanted (file_names scopes))) ≡ found_in name (map wanted (outer ++ inner ∷ []))
  blocks_then_file [] inner = refl
  blocks_then_file (file ∷ rest) inner = refl

no_class_around : (classes : ClassTable) (n : ℕ) → outwards classes n None ≡ []
no_class_around classes zero = refl
no_class_around classes (suc n) = refl

module _ (env : Env) (name : Name) (holds : IsEnv env) where
  abbrev type_there : ℕ → Bool
  type_there n = is_type (slice_get env.entities n)

  none_around : classes_around env ≡ []
  none_around =
      ap (λ o. outwards env.classes (length env.classes.labels) (innermost o (class_of_body env.hand.kind))) holds.no_open_class
      ∙ ap (λ k. outwards env.classes (length env.classes.labels) k) holds.hand.no_class ∙ no_class_around env.classes (length env.classes.labels)

  in_no_block : found_in name (map (types_in env) (block_scopes env.scopes)) ≡ None → type_behind_key env false name ≡ around_or_type_of_file env name (type_around env name (classes_around env))
  in_no_block e = rw e refl

  in_block : (n : ℕ) → found_in name (map (types_in env) (block_scopes env.scopes)) ≡ Some n → type_behind_key env false name ≡ entity (entity_of env (Some n))
  in_block n e = rw e refl

  found_behind : found_in name (map (types_in env) (block_scopes env.scopes)) ≡ found_in name (map (types_in env) (block_scopes env.scopes))
  found_behind = refl

  pub behind_key : type_behind_key env false name ≡ entity (first_type env (all_found name env.scopes))
  unfolding first_type
  behind_key =
      by (found_in name (map (types_in env) (block_scopes env.scopes))) refl
      ∙ ap (λ o. entity (entity_of env o)) (blocks_then_file type_there name env.scopes.outer env.scopes.inner ∙ in_all type_there name (env.scopes.outer ++ env.scopes.inner ∷ []))
    where
      by : (o : Option ℕ) → found_in name (map (types_in env) (block_scopes env.scopes)) ≡ o
          → type_behind_key env false name
          ≡ entity (entity_of env (option_or (found_in name (map (types_in env) (block_scopes env.scopes))) (in_scope name (types_in env (file_names env.scopes)))))
      by None e =
          in_no_block e ∙ ap (λ cs. around_or_type_of_file env name (type_around env name cs)) none_around
          ∙ ap (λ o. entity (entity_of env (option_or o (in_scope name (types_in env (file_names env.scopes)))))) (sym e)
      by (Some n) e = in_block n e ∙ ap (λ o. entity (entity_of env (option_or o (in_scope name (types_in env (file_names env.scopes)))))) (sym e)

-- ---- what is found first is a type

found_type : (env : Env) (ns : List ℕ) → if_type (first_type env ns) ≡ first_type env ns
unfolding first_type
found_type env [] = refl
found_type env (n ∷ ns) = by (slice_get env.entities n) refl (found_type env ns)
  where
    abbrev_rest : Option ℕ
    abbrev_rest = find (λ n. is_type (slice_get env.entities n)) ns

    by : (o : Option Entity) → slice_get env.entities n ≡ o → if_type (entity_of env abbrev_rest) ≡ entity_of env abbrev_rest
        → if_type (entity_of env (cond (is_type o) (Some n) abbrev_rest)) ≡ entity_of env (cond (is_type o) (Some n) abbrev_rest)
    by None e rest = rest
    by (Some (object x)) e rest = rest
    by (Some (functions fs)) e rest = rest
    by (Some (enumerator t z)) e rest = rest
    by (Some (alias t)) e rest = rw e refl
    by (Some (class_name c)) e rest = rw e refl
    by (Some (enum_name m)) e rest = rw e refl

module _ (at : ℕ) (name : Name) (env : Env) (numbers : List ℕ) (holds : IsEnv env) (are : numbers ≡ all_found name env.scopes) where
  pub keyed_is : (e : Entity) → Some e ≡ first_type env numbers → shut.keyed_named at name env ≡ shut.type_of e env
  unfolding shut.keyed_named shut.type_of
  keyed_is e is =
      ap (λ f. type_found at f env) (behind_key env name holds ∙ ap (λ ns. entity (first_type env ns)) (sym are))
      ∙ answered at (first_type env numbers) env e (found_type env numbers ∙ sym is)

  pub no_keyed : None ≡ first_type env numbers → shut.keyed_named at name env ≡ Refused 10 at
  unfolding shut.keyed_named
  no_keyed is =
      ap (λ f. type_found at f env) (behind_key env name holds ∙ ap (λ ns. entity (first_type env ns)) (sym are))
      ∙ broken at (first_type env numbers) env (found_type env numbers ∙ sym is)

-- ---- one number after the other

pub first_none : (env : Env) (ns : List ℕ) → length ns ≡ 0 → None ≡ first_type env ns
unfolding first_type
first_none env [] none = refl
first_none env (n ∷ ns) none = absurd (omega arith)

module _ (env : Env) (n : ℕ) (rest ns : List ℕ) (e : Entity) (all : ns ≡ n ∷ rest) (here : slice_get env.entities n ≡ Some e) where
  pub first_here : (t : Entity) → Some t ≡ type_entity e → Some t ≡ first_type env ns
  unfolding first_type
  first_here t is = by e is here ∙ ap (λ ns. entity_of env (find (λ n. is_type (slice_get env.entities n)) ns)) (sym all)
    where
      by : (e : Entity) → Some t ≡ type_entity e → slice_get env.entities n ≡ Some e → Some t ≡ entity_of env (find (λ n. is_type (slice_get env.entities n)) (n ∷ rest))
      by (alias u) is here = rw (here, here) is
      by (class_name c) is here = rw (here, here) is
      by (enum_name m) is here = rw (here, here) is
      by (object x) is here = cc
      by (functions fs) is here = cc
      by (enumerator u z) is here = cc

  pub first_later : (o : Option Entity) → None ≡ type_entity e → o ≡ first_type env rest → o ≡ first_type env ns
  unfolding first_type
  first_later o is later = later ∙ by e is here ∙ ap (λ ns. entity_of env (find (λ n. is_type (slice_get env.entities n)) ns)) (sym all)
    where
      by : (e : Entity) → None ≡ type_entity e → slice_get env.entities n ≡ Some e
          → entity_of env (find (λ n. is_type (slice_get env.entities n)) rest) ≡ entity_of env (find (λ n. is_type (slice_get env.entities n)) (n ∷ rest))
      by (alias u) is here = cc
      by (class_name c) is here = cc
      by (enum_name m) is here = cc
      by (object x) is here = rw here refl
      by (functions fs) is here = rw here refl
      by (enumerator u z) is here = rw here refl

pub ruleset keyed_laws = (keyed_is, no_keyed, grown_laws)

pub ruleset first_laws = (first_none, first_here, first_later)
