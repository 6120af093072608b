-- A name by itself, where no class is around: what the innermost scope that has it declares it as.
use Rattle.std.proofs.Common.{◌≡◌, ℕ, zero, suc, List, [], ◌∷◌, ◌++◌, length, false, Option, None, Some, refl, sym, ap, ◌∙◌}
use Rattle.std.specs.Option.{option_or}
use Rattle.cf_classes.specs.ClassTable.{ClassTable}
use Rattle.cf_lookup.specs.Scope.{OpenScopes, found, found_in, in_scope}
use Rattle.cf_elab.specs.Env.{Env, Name, Entity}
use Rattle.cf_elab.specs.Members.{outwards, classes_around, found_around, class_of_body, innermost}
use Rattle.cf_elab.specs.Names.{entity_of, entity_named, file_names}
use Rattle.cf_elab.specs.Paths.{Found, entity, block_scopes, block_or_around, around_or_file, found_alone}

no_class_around : (classes : ClassTable) (n : ℕ) → outwards classes n None ≡ []
no_class_around classes zero = refl
no_class_around classes (suc n) = refl

-- the blocks, and then the file
blocks_then_file : (name : Name) (outer : List (List (List ℕ × ℕ))) (inner : List (List ℕ × ℕ))
    → let scopes : OpenScopes = record { outer = outer; inner = inner } in found name scopes ≡ option_or (found_in name (block_scopes scopes)) (in_scope name (file_names scopes))
blocks_then_file name [] inner = refl
blocks_then_file name (file ∷ rest) inner = refl

-- in an environment without classes
pub found-alone : (env : Env) (name : Name) → env.open_classes ≡ [] → class_of_body env.hand.kind ≡ None → found_alone env false name ≡ entity (entity_of env (found name env.scopes))
found-alone env name no_open no_body = by (found_in name (block_scopes env.scopes)) ∙ ap (λ e. entity (entity_of env e)) (sym (blocks_then_file name env.scopes.outer env.scopes.inner))
  where
    none : classes_around env ≡ []
    none =
        ap (λ o. outwards env.classes (length env.classes.labels) (innermost o (class_of_body env.hand.kind))) no_open
        ∙ ap (λ k. outwards env.classes (length env.classes.labels) k) no_body ∙ no_class_around env.classes (length env.classes.labels)

    by : (e : Option ℕ) → block_or_around env name e ≡ entity (entity_of env (option_or e (in_scope name (file_names env.scopes))))
    by None = ap (λ cs. around_or_file env name (found_around env name cs)) none
    by (Some e) = refl

pub find-seen : (env : Env) (name : Name) (id : Option ℕ) (found_entity : Option Entity) → env.open_classes ≡ [] → class_of_body env.hand.kind ≡ None
    → id ≡ found name env.scopes → entity_of env id ≡ found_entity → found_alone env false name ≡ entity found_entity
find-seen env name id found_entity no_open no_body called is = found-alone env name no_open no_body ∙ ap (λ e. entity (entity_of env e)) (sym called) ∙ ap entity is
