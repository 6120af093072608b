-- Names, and what they stand for (3.2, 3.3, 5.1).
use Rattle.std.specs.Prelude.{ℕ, zero, suc, Bool, true, false, not, if◌then◌else◌, List, [], ◌∷◌, ◌++◌, length, codes, ℤ, pos, Option, None, Some, slice_get, bytes_eq}
use Rattle.cf_syntax.specs.declared.name.Last.{Last}
use Rattle.cf_syntax.specs.declared.name.Last.TheVariants as last
use Rattle.cf_types.specs.declared.ty.Ty.TheVariants as ty
use Rattle.cf_classes.specs.LinkName.{operator_codes, item}
use Rattle.cf_lookup.specs.Scope.{OpenScopes, found, in_scope}
use Rattle.cf_core.specs.declared.node.Core.TheVariants as node
use Rattle.cf_elab.specs.Env.{Env, Name, Entity, object, functions, alias, class_name, enum_name, enumerator, Object, Home, local_home, static_home, FunctionEntry}
use Rattle.cf_elab.specs.Answer.{Elab, ◌>>=◌, ◌>>◌, gives, breaks, need, known, changed}
use Rattle.cf_elab.specs.Made.{intern}
use Rattle.cf_elab.specs.Operand.{Value, Operand, value, functions as named_functions, place_of, constant, computed, result_value}

-- ---- scopes

abbrev pub file_names : OpenScopes → List (List ℕ × ℕ)
file_names scopes = first_of scopes.outer scopes.inner
  where
    first_of : List (List (List ℕ × ℕ)) → List (List ℕ × ℕ) → List (List ℕ × ℕ)
    first_of [] inner = inner
    first_of (scope ∷ rest) inner = scope

abbrev pub is_file_scope : OpenScopes → Bool
is_file_scope scopes = elim scopes.outer [ [] ↦ true | s ∷ rest ↦ false ]

abbrev pub enter_scope : Elab (Unit {0})
enter_scope = changed (λ env. record env { scopes = record { outer = env.scopes.outer ++ env.scopes.inner ∷ []; inner = [] } })

abbrev pub without_last : List (List (List ℕ × ℕ)) → OpenScopes
without_last [] = record { outer = []; inner = [] }
without_last (s ∷ []) = record { outer = []; inner = s }
without_last (s ∷ t ∷ rest) = record (without_last (t ∷ rest)) { outer = s ∷ (without_last (t ∷ rest)).outer }

abbrev pub leave_scope : Elab (Unit {0})
leave_scope = changed (λ env. record env { scopes = without_last env.scopes.outer })

-- in a scope of its own
abbrev pub scoped : {A : Type 0} → Elab A → Elab A
scoped run = do
  enter_scope
  a ← run
  leave_scope
  gives a

abbrev pub entity_of : Env → Option ℕ → Option Entity
entity_of env None = None
entity_of env (Some e) = slice_get env.entities e

-- what the innermost scope that has the name declares it as; `::` asks the file's scope alone
abbrev pub entity_named : Env → Bool → Name → Option Entity
entity_named env false name = entity_of env (found name env.scopes)
entity_named env true name = entity_of env (in_scope name (file_names env.scopes))

-- what the innermost scope itself declares, by the number of its entity
abbrev pub declared_here : Env → Name → Option ℕ
declared_here env name = in_scope name env.scopes.inner

abbrev pub bind_name : Name → ℕ → Elab (Unit {0})
bind_name name e = changed (λ env. record env { scopes = record env.scopes { inner = env.scopes.inner ++ (name, e) ∷ [] } })

-- a new entity of this name in the innermost scope
abbrev pub declare : Name → Entity → Elab (Unit {0})
declare name e = do
  env ← known
  changed (λ env. record env { entities = env.entities ++ e ∷ [] })
  bind_name name (length env.entities)

abbrev pub replaced : {A : Type 0} → ℕ → A → List A → List A
replaced n x [] = []
replaced zero x (y ∷ ys) = x ∷ ys
replaced (suc n) x (y ∷ ys) = y ∷ replaced n x ys

abbrev pub redeclare : ℕ → Entity → Elab (Unit {0})
redeclare n e = changed (λ env. record env { entities = replaced n e env.entities })

-- ---- names as they are written

-- how a name is looked up: an identifier by itself, and an operator by the piece of its link name
abbrev pub key : Last → Name
key (last.Ident name) = name
key (last.Destructor name) = codes "__dt"
key (last.Operator n) = codes "__" ++ item operator_codes n
key (last.Conversion specifiers pointers) = codes "__op"

-- ---- the value of a name

abbrev pub home_node : ℕ → ℕ → Home → Value
home_node at t (local_home i) = place_of at (node.Local at i) t false
home_node at t (static_home name) = place_of at (node.Static at name t) t true

-- a reference is another name for a place, which is not known before the run (8.4.3)
abbrev pub object_value : Env → ℕ → Object → Value
object_value env at x =
    let v = home_node at x.type x.home in
    let r = result_value env.types at v.node x.type in
    if r.is_lvalue then r else record v { number = x.number }

abbrev pub is_main : Name → Bool
is_main name = bytes_eq name (codes "__main")

abbrev pub some_main : Env → List ℕ → Bool
some_main env [] = false
some_main env (f ∷ fs) = main_entry (slice_get env.entries f)
  where
    main_entry : Option FunctionEntry → Bool
    main_entry None = false
    main_entry (Some f) = is_main f.link

-- an enumerator is a constant; in its own expression it has no value yet (3.2)
abbrev pub enumerator_value : ℕ → ℕ → Option ℤ → Value
enumerator_value at t (Some z) = constant at z t
enumerator_value at t None = computed at (node.Number at (pos 0)) t

-- K10; `main` may not be used, K11 (3.4)
abbrev pub operand_of : ℕ → Option Entity → Elab Operand
operand_of at None = breaks 10 at
operand_of at (Some (object x)) = known >>= (λ env. gives (value (object_value env at x)))
operand_of at (Some (functions fs)) = do
  env ← known
  need (not (some_main env fs)) 11 at
  gives (named_functions at fs)
operand_of at (Some (alias t)) = breaks 10 at
operand_of at (Some (class_name c)) = breaks 10 at
operand_of at (Some (enum_name e)) = breaks 10 at
operand_of at (Some (enumerator t z)) = gives (value (enumerator_value at t z))

-- ---- the type that a name stands for

abbrev pub type_of_entity : ℕ → Option Entity → Elab ℕ
type_of_entity at None = breaks 10 at
type_of_entity at (Some (object x)) = breaks 10 at
type_of_entity at (Some (functions fs)) = breaks 10 at
type_of_entity at (Some (alias t)) = gives t
type_of_entity at (Some (class_name c)) = intern (ty.Class c)
type_of_entity at (Some (enum_name e)) = intern (ty.Enum e)
type_of_entity at (Some (enumerator t z)) = breaks 10 at
