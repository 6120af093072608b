-- Names with the classes that qualify them, and what they stand for (3.2, 5.1, 7.1.6, 9.3).
use Rattle.std.specs.Prelude.{ℕ, Bool, true, false, if◌then◌else◌, List, [], ◌∷◌, ◌++◌, map, filter, Option, None, Some, slice_get}
use Rattle.cf_syntax.specs.declared.name.Name.{Name as WrittenName}
use Rattle.cf_syntax.specs.declared.name.Path.{Path}
use Rattle.cf_classes.specs.declared.class.MemberDef.{MemberDef}
use Rattle.cf_classes.specs.declared.class.What.{What}
use Rattle.cf_classes.specs.declared.class.What.TheVariants as what
use Rattle.cf_classes.specs.ClassTable.{members_of}
use Rattle.cf_classes.specs.Lookup.{Look, One, Nothing, found}
use Rattle.cf_lookup.specs.Scope.{OpenScopes, found_in, in_scope}
use Rattle.cf_elab.specs.Env.{Env, Name, Entity, alias, class_name, enum_name}
use Rattle.cf_elab.specs.Answer.{Elab, ◌>>=◌, gives, breaks, known}
use Rattle.cf_elab.specs.Operand.{Operand, sort_of}
use Rattle.cf_elab.specs.Members.{class_defs, classes_around, unless_nothing, found_around, member_by_name, member_operand, type_by_look, class_number}
use Rattle.cf_elab.specs.Names.{entity_named, entity_of, file_names, type_of_entity, operand_of, key}

-- ---- names alone: the blocks, then the classes around, then the file

abbrev pub block_scopes : OpenScopes → List (List (List ℕ × ℕ))
block_scopes scopes = behind scopes.outer scopes.inner
  where
    behind : List (List (List ℕ × ℕ)) → List (List ℕ × ℕ) → List (List (List ℕ × ℕ))
    behind [] inner = []
    behind (file ∷ rest) inner = rest ++ inner ∷ []

-- an entity, or what a class has by the name
pub data Found : Type 0 where
  entity : Option Entity → Found
  of_class : ℕ → Look → Found

abbrev pub around_or_file : Env → Name → Option (ℕ × Look) → Found
around_or_file env name None = entity (entity_named env true name)
around_or_file env name (Some x) = of_class x.0 x.1

abbrev pub block_or_around : Env → Name → Option ℕ → Found
block_or_around env name None = around_or_file env name (found_around env name (classes_around env))
block_or_around env name e = entity (entity_of env e)

abbrev pub found_alone : Env → Bool → Name → Found
found_alone env true name = entity (entity_named env true name)
found_alone env false name = block_or_around env name (found_in name (block_scopes env.scopes))

-- ---- a class or an enumeration behind its key: what is no type does not hide it (3.2)

abbrev pub is_type : Option Entity → Bool
is_type (Some (alias t)) = true
is_type (Some (class_name c)) = true
is_type (Some (enum_name e)) = true
is_type other = false

abbrev pub types_in : Env → List (List ℕ × ℕ) → List (List ℕ × ℕ)
types_in env scope = filter (λ (x : List ℕ × ℕ). is_type (slice_get env.entities x.1)) scope

abbrev pub is_type_member : Option MemberDef → Bool
is_type_member None = false
is_type_member (Some m) = of_what m.what
  where
    of_what : What → Bool
    of_what (what.Nested c) = true
    of_what what.Alias = true
    of_what other = false

abbrev pub type_look : Env → Look → Look
type_look env (One p (m ∷ ms)) = if is_type_member (slice_get (members_of (class_defs env) m.class) m.index) then One p (m ∷ ms) else Nothing
type_look env look = look

abbrev pub type_around : Env → Name → List ℕ → Option (ℕ × Look)
type_around env name [] = None
type_around env name (c ∷ cs) = unless_nothing (type_around env name cs) c (type_look env (found (class_defs env) c name))

abbrev pub type_of_file : Env → Name → Found
type_of_file env name = entity (entity_of env (in_scope name (types_in env (file_names env.scopes))))

abbrev pub around_or_type_of_file : Env → Name → Option (ℕ × Look) → Found
around_or_type_of_file env name None = type_of_file env name
around_or_type_of_file env name (Some x) = of_class x.0 x.1

abbrev pub type_behind_key : Env → Bool → Name → Found
type_behind_key env true name = type_of_file env name
type_behind_key env false name = in_blocks (found_in name (map (types_in env) (block_scopes env.scopes)))
  where
    in_blocks : Option ℕ → Found
    in_blocks None = around_or_type_of_file env name (type_around env name (classes_around env))
    in_blocks e = entity (entity_of env e)

-- ---- types

abbrev pub type_found : ℕ → Found → Elab ℕ
type_found at (entity e) = type_of_entity at e
type_found at (of_class c look) = type_by_look at c look

abbrev pub class_of_sort : ℕ → Option ℕ → Elab ℕ
class_of_sort at None = breaks 10 at
class_of_sort at (Some c) = gives c

abbrev pub class_of_type : ℕ → ℕ → Elab ℕ
class_of_type at t = known >>= (λ env. class_of_sort at (class_number (sort_of env.types t)))

-- the class that names lead to from a class
abbrev pub class_inside : ℕ → ℕ → List Name → Elab ℕ
class_inside at c [] = gives c
class_inside at c (n ∷ ns) = do
  env ← known
  t ← type_by_look at c (found (class_defs env) c n)
  d ← class_of_type at t
  class_inside at d ns

-- the class that qualifying names lead to
abbrev pub class_of_names : ℕ → Bool → Name → List Name → Elab ℕ
class_of_names at file n ns = do
  env ← known
  t ← type_found at (found_alone env file n)
  c ← class_of_type at t
  class_inside at c ns

-- the last name of several, and those before it
abbrev pub last_name : Name → List Name → Name
last_name n [] = n
last_name n (m ∷ rest) = last_name m rest

abbrev pub before_last : Name → List Name → List Name
before_last n [] = []
before_last n (m ∷ rest) = n ∷ before_last m rest

abbrev pub type_of_names : ℕ → Bool → Name → List Name → Elab ℕ
type_of_names at file last [] = known >>= (λ env. type_found at (found_alone env file last))
type_of_names at file last (q ∷ qs) = do
  c ← class_of_names at file q qs
  env ← known
  type_by_look at c (found (class_defs env) c last)

abbrev pub type_at : ℕ → Bool → List Name → Elab ℕ
type_at at file [] = breaks 10 at
type_at at file (n ∷ ns) = type_of_names at file (last_name n ns) (before_last n ns)

abbrev pub type_at_path : Path → Elab ℕ
type_at_path path = type_at path.at path.from_file path.names

-- behind `class`, `struct` or `enum`
abbrev pub keyed_type : Path → Elab ℕ
keyed_type path = by_names path.names
  where
    by_names : List Name → Elab ℕ
    by_names (n ∷ []) = known >>= (λ env. type_found path.at (type_behind_key env path.from_file n))
    by_names names = type_at_path path

abbrev pub class_at_path : Path → Elab ℕ
class_at_path path = type_at_path path >>= class_of_type path.at

-- ---- values

abbrev pub operand_found : ℕ → Found → Elab Operand
operand_found at (entity e) = operand_of at e
operand_found at (of_class c look) = member_by_name at c look false

-- K10; K11; K34; K38; K39 (3.2, 3.4, 10.1.1, 11)
abbrev pub name_of_scopes : WrittenName → List Name → Elab Operand
name_of_scopes n [] = known >>= (λ env. operand_found n.last_at (found_alone env n.from_file (key n.last)))
name_of_scopes n (q ∷ qs) = do
  c ← class_of_names n.at n.from_file q qs
  env ← known
  member_by_name n.last_at c (found (class_defs env) c (key n.last)) true

abbrev pub named : WrittenName → Elab Operand
named n = name_of_scopes n n.scopes

-- a qualified name by itself: no object is taken for it
abbrev pub in_class_alone : WrittenName → Name → List Name → Elab Operand
in_class_alone n q qs = do
  c ← class_of_names n.at n.from_file q qs
  env ← known
  member_operand n.last_at c (found (class_defs env) c (key n.last)) None true

abbrev pub named_in_class : WrittenName → Option (Elab Operand)
named_in_class n = elim n.scopes [ [] ↦ None | q ∷ qs ↦ Some (in_class_alone n q qs) ]
