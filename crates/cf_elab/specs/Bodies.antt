-- Member initialisers and the bodies of member functions (9.3.2, 12.6.2).
use Rattle.std.specs.Prelude.{ℕ, ◌+◌, Bool, true, false, not, ◌==◌, ◌&&◌, ◌||◌, nat_eq, if◌then◌else◌, List, [], ◌∷◌, ◌++◌, map, filter, Option, None, Some, slice_get, bytes_eq}
use Rattle.std.specs.List.{list_any, find}
use Rattle.std.specs.Option.{option_map_or}
use Rattle.cf_syntax.specs.declared.name.Path.{Path}
use Rattle.cf_convert.specs.Constness.{is_const}
use Rattle.cf_classes.specs.declared.path.Step.{Step}
use Rattle.cf_classes.specs.declared.path.Step.TheVariants.{Base, VBase}
use Rattle.cf_classes.specs.declared.class.BaseDef.{BaseDef}
use Rattle.cf_classes.specs.declared.class.MemberDef.{MemberDef}
use Rattle.cf_classes.specs.declared.class.MemberRef.{MemberRef}
use Rattle.cf_classes.specs.declared.class.What.{What}
use Rattle.cf_classes.specs.declared.class.What.TheVariants as what
use Rattle.cf_classes.specs.ClassTable.{bases_of, members_of}
use Rattle.cf_classes.specs.Special.{Made, Absent, specials}
use Rattle.cf_classes.specs.Subobject.{virtual_bases}
use Rattle.cf_classes.specs.TypeTree.{class_in}
use Rattle.cf_core.specs.declared.node.Core.{Core as Node}
use Rattle.cf_core.specs.declared.node.Core.TheVariants as node
use Rattle.cf_core.specs.declared.node.BuiltPart.{BuiltPart}
use Rattle.cf_core.specs.declared.node.BuiltPart.TheVariants as built
use Rattle.cf_core.specs.declared.node.PartStart.{PartStart}
use Rattle.cf_core.specs.declared.unit.Role.{Role}
use Rattle.cf_core.specs.declared.unit.Role.TheVariants as role
use Rattle.cf_elab.specs.Env.{Env, Name, BodyKind, member_body, static_body, constructor_body, destructor_body, Entity, class_name, alias}
use Rattle.cf_elab.specs.UserFit.{initial}
use Rattle.cf_elab.specs.Answer.{Elab, ◌>>=◌, ◌>>◌, gives, breaks, need, known, each}
use Rattle.cf_elab.specs.Operand.{Value, Part, evaluated, defs, sort_of, is_reference}
use Rattle.cf_elab.specs.Members.{class_defs, is_object_field, class_number}
use Rattle.cf_elab.specs.Construct.{constructed, part_constructed, default_start}
use Rattle.cf_elab.specs.Initial.{no_keeper}
use Rattle.cf_elab.specs.Paths.{class_at_path, Found, entity, of_class, found_alone}
use Rattle.cf_elab.specs.Methods.{is_const_type}

-- an initialiser of a base or member, with the values of its arguments
pub record Initialises : Type 0 where
  pub at : ℕ  -- of its name
  pub place : ℕ  -- of its bracket
  pub part : BuiltPart
  pub values : List Value

-- ---- the parts in order of building: virtual bases, direct bases, data members

abbrev pub base_numbers : ℕ → List BaseDef → List BuiltPart
base_numbers i [] = []
base_numbers i (b ∷ bs) = (if b.is_virtual then [] else built.Base (Base i) ∷ []) ++ base_numbers (i + 1) bs

abbrev pub field_numbers : ℕ → List MemberDef → List BuiltPart
field_numbers i [] = []
field_numbers i (m ∷ ms) = built.Field i ∷ field_numbers (i + 1) ms

abbrev pub fields : Env → ℕ → List MemberDef
fields env c = filter is_object_field (members_of (class_defs env) c)

abbrev pub parts_of : Env → ℕ → List BuiltPart
parts_of env c =
    map (λ v. built.Base (VBase v)) (virtual_bases (class_defs env) c) ++ base_numbers 0 (bases_of (class_defs env) c) ++ field_numbers 0 (fields env c)

abbrev pub same_step : Step → Step → Bool
same_step (Base i) (Base j) = i == j
same_step (VBase v) (VBase w) = v == w
same_step s t = false

abbrev pub same_part : BuiltPart → BuiltPart → Bool
same_part (built.Base s) (built.Base t) = same_step s t
same_part (built.Field i) (built.Field j) = i == j
same_part p q = false

-- ---- what an initialiser names: a data member of the class itself, else a direct or virtual base, else K43

abbrev pub field_at : Name → ℕ → List MemberDef → Option ℕ
field_at name i [] = None
field_at name i (m ∷ ms) = if bytes_eq m.name name then Some i else field_at name (i + 1) ms

abbrev pub base_in : ℕ → ℕ → List BaseDef → Option BuiltPart
base_in c i [] = None
base_in c i (b ∷ bs) = if (b.class == c) && not b.is_virtual then Some (built.Base (Base i)) else base_in c (i + 1) bs

abbrev pub base_part : Env → ℕ → ℕ → Option BuiltPart
base_part env own c =
    if list_any (nat_eq c) (virtual_bases (class_defs env) own) then Some (built.Base (VBase c)) else base_in c 0 (bases_of (class_defs env) own)

abbrev pub base_or_fault : ℕ → Option BuiltPart → Elab BuiltPart
base_or_fault at None = breaks 43 at
base_or_fault at (Some p) = gives p

abbrev pub only_name : Path → Option Name
only_name path = if path.from_file then None else of_names path.names
  where
    of_names : List Name → Option Name
    of_names (n ∷ []) = Some n
    of_names other = None

abbrev pub named_field : Env → ℕ → Option Name → Option ℕ
named_field env c None = None
named_field env c (Some name) = field_at name 0 (fields env c)

-- the class that a name stands for, if it is one
abbrev pub class_of_entity : Env → Option Entity → Option ℕ
class_of_entity env (Some (class_name c)) = Some c
class_of_entity env (Some (alias t)) = class_number (sort_of env.types t)
class_of_entity env other = None

abbrev pub class_found : Path → Found → Elab (Option ℕ)
class_found path (entity e) = known >>= (λ env. gives (class_of_entity env e))
class_found path (of_class c look) = class_at_path path >>= (λ b. gives (Some b))

abbrev pub class_named : Path → Option Name → Elab (Option ℕ)
class_named path None = class_at_path path >>= (λ b. gives (Some b))
class_named path (Some name) = known >>= (λ env. class_found path (found_alone env false name))

abbrev pub base_named : Env → ℕ → Option ℕ → Option BuiltPart
base_named env own None = None
base_named env own (Some c) = base_part env own c

abbrev pub part_named : ℕ → Path → Option ℕ → Elab BuiltPart
part_named c path (Some i) = gives (built.Field i)
part_named c path None = do
  b ← class_named path (only_name path)
  env ← known
  base_or_fault path.at (base_named env c b)

-- the arguments of all first; then each name, K43, and none twice, K43
pub record WrittenInit : Type 0 where
  pub path : Path
  pub place : ℕ
  pub arguments : List Part

abbrev pub with_values : WrittenInit → Elab (WrittenInit × List Value)
with_values w = each evaluated w.arguments >>= (λ vs. gives (w, vs))

abbrev pub initialises : ℕ → List BuiltPart → List (WrittenInit × List Value) → Elab (List Initialises)
initialises c before [] = gives []
initialises c before (x ∷ xs) = do
  env ← known
  p ← part_named c x.0.path (named_field env c (only_name x.0.path))
  need (not (list_any (same_part p) before)) 43 x.0.path.at
  rest ← initialises c (p ∷ before) xs
  gives (record { at = x.0.path.at; place = x.0.place; part = p; values = x.1 } ∷ rest)

-- ---- each part by its initialiser or by default

abbrev pub type_of_part : Env → ℕ → BuiltPart → Option ℕ
type_of_part env c (built.Field i) = option_map_or (λ (m : MemberDef). Some m.ty) (slice_get (fields env c) i) None
type_of_part env c (built.Base s) = None

abbrev pub class_of_step : Env → ℕ → Step → ℕ
class_of_step env c (Base i) = option_map_or (λ (b : BaseDef). b.class) (slice_get (bases_of (class_defs env) c) i) c
class_of_step env c (VBase v) = v

abbrev pub scalar_start : ℕ → ℕ → List Value → Elab Node
scalar_start at t [] = gives (node.Blank at)
scalar_start at t (v ∷ []) = initial no_keeper at t v >>= (λ s. gives s.node)
scalar_start at t (v ∷ w ∷ rest) = breaks 28 at

abbrev pub field_start : ℕ → ℕ → List Value → Option ℕ → Elab Node
field_start at t vs None = scalar_start at t vs
field_start at t vs (Some c) = constructed at c vs

abbrev pub part_type : Env → ℕ → Option ℕ
part_type env t = class_number (sort_of env.types t)

-- a const or reference member is initialised, K28
-- a base or member without a default constructor is K40
abbrev pub has_default : Env → Option ℕ → Bool
has_default env None = true
has_default env (Some c) = present (specials env.types (defs env) c).constructor
  where
    present : Made → Bool
    present Absent = false
    present other = true

abbrev pub need_default : ℕ → Option ℕ → Elab (Unit {0})
need_default at c = known >>= (λ env. need (has_default env c) 40 at)

abbrev pub field_by_default : ℕ → Option ℕ → Elab Node
field_by_default at None = gives (node.Blank at)
field_by_default at (Some t) = do
  env ← known
  need (not (is_const env.types t || is_reference (sort_of env.types t))) 28 at
  need_default at (class_in env.types t)
  default_start at t

abbrev pub base_by_default : ℕ → ℕ → Elab Node
base_by_default at c = need_default at (Some c) >> part_constructed at c []

abbrev pub part_by_default : ℕ → ℕ → BuiltPart → Elab Node
part_by_default at c (built.Base s) = known >>= (λ env. base_by_default at (class_of_step env c s))
part_by_default at c (built.Field i) = known >>= (λ env. field_by_default at (type_of_part env c (built.Field i)))

abbrev pub given_field : Initialises → Option ℕ → Elab Node
given_field x None = breaks 43 x.at
given_field x (Some t) = known >>= (λ env. field_start x.place t x.values (part_type env t))

abbrev pub part_given : ℕ → Initialises → BuiltPart → Elab Node
part_given c x (built.Base s) = known >>= (λ env. part_constructed x.place (class_of_step env c s) x.values)
part_given c x (built.Field i) = known >>= (λ env. given_field x (type_of_part env c (built.Field i)))

abbrev pub part_start : ℕ → ℕ → BuiltPart → Option Initialises → Elab PartStart
part_start at c p None = part_by_default at c p >>= (λ n. gives (record { part = p; start = n }))
part_start at c p (Some x) = part_given c x p >>= (λ n. gives (record { part = p; start = n }))

abbrev pub started : ℕ → ℕ → List Initialises → BuiltPart → Elab PartStart
started at c xs p = part_start at c p (find (λ (x : Initialises). same_part p x.part) xs)

-- a constructor's body with its parts, in order of building
abbrev pub constructor_body_of : ℕ → ℕ → List WrittenInit → Elab Node → Elab Node
constructor_body_of at c inits body = do
  vs ← each with_values inits
  xs ← initialises c [] vs
  env ← known
  ps ← each (started at c xs) (parts_of env c)
  b ← body
  gives (node.Parts at ps b)

-- another function has no initialisers, K43
abbrev pub plain_body_of : List WrittenInit → Elab Node → Elab Node
plain_body_of [] body = body
plain_body_of (i ∷ is) body = breaks 43 i.path.at

-- ---- what kind of body a member function has

abbrev pub body_kind : Env → MemberRef → MemberDef → BodyKind
body_kind env m d = by_what d.what
  where
    by_what : What → BodyKind
    by_what what.Constructor = constructor_body m.class
    by_what what.Destructor = destructor_body m.class
    by_what other = if d.is_static then static_body m.class else member_body m.class (is_const_type env d.ty)

abbrev pub role_of : MemberRef → MemberDef → Role
role_of m d = by_what d.what
  where
    by_what : What → Role
    by_what what.Constructor = role.Constructor m.class
    by_what what.Destructor = role.Destructor m.class
    by_what other = if d.is_static then role.Plain else role.Member m.class

abbrev pub body_by_what : ℕ → MemberRef → What → List WrittenInit → Elab Node → Elab Node
body_by_what at m what.Constructor inits body = constructor_body_of at m.class inits body
body_by_what at m other inits body = plain_body_of inits body
