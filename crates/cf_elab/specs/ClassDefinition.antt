-- Classes: bases, members in order, and what is looked at when the last is declared (9, 10).
use Rattle.std.specs.Prelude.{ℕ, Bool, true, false, not, ◌==◌, ◌&&◌, ◌||◌, nat_eq, nat_le, if◌then◌else◌, List, [], ◌∷◌, ◌++◌, length, Option, None, Some, is_some}
use Rattle.std.specs.List.{list_any}
use Rattle.cf_base.specs.declared.limit.Bound.TheVariants as bound
use Rattle.cf_types.specs.declared.ty.Ty.TheVariants as ty
use Rattle.cf_syntax.specs.declared.specifier.ClassKey.{ClassKey}
use Rattle.cf_syntax.specs.declared.specifier.ClassKey.TheVariants as key
use Rattle.cf_unit.specs.declared.class.Access.{Access as WrittenAccess}
use Rattle.cf_unit.specs.declared.class.Access.TheVariants as written
use Rattle.cf_unit.specs.declared.class.Base.{Base}
use Rattle.cf_unit.specs.declared.class.BaseWord.{BaseWord}
use Rattle.cf_unit.specs.declared.class.BaseWord.TheVariants as base_word
use Rattle.cf_classes.specs.declared.class.Access.{Access}
use Rattle.cf_classes.specs.declared.class.Access.TheVariants as access
use Rattle.cf_classes.specs.declared.class.BaseDef.{BaseDef}
use Rattle.cf_classes.specs.declared.class.ClassDef.{ClassDef}
use Rattle.cf_classes.specs.declared.class.MemberDef.{MemberDef}
use Rattle.cf_classes.specs.declared.class.What.{What}
use Rattle.cf_classes.specs.declared.class.What.TheVariants as what
use Rattle.cf_classes.specs.ClassTable.{definition, members_of}
use Rattle.cf_classes.specs.Description.{description}
use Rattle.cf_classes.specs.Overrider.{has_overriders}
use Rattle.cf_classes.specs.Signature.{may_override, signature, same_signature, inherited_virtuals}
use Rattle.cf_classes.specs.Subobject.{paths}
use Rattle.cf_elab.specs.Env.{Env, Name, OpenClass, Entity, class_name, alias as type_alias}
use Rattle.cf_elab.specs.Access.{inside}
use Rattle.cf_elab.specs.Arguments.{fun_at, result_of}
use Rattle.cf_elab.specs.Answer.{Elab, ◌>>=◌, ◌>>◌, gives, breaks, need, none_at, known, changed, each, for_each}
use Rattle.cf_elab.specs.Made.{intern}
use Rattle.cf_elab.specs.Operand.{defs, sort_of, is_void}
use Rattle.cf_elab.specs.Complete.{complete, within, most_name, type_within}
use Rattle.cf_elab.specs.Names.{declared_here, entity_of, is_file_scope}
use Rattle.cf_elab.specs.ClassScope.{asked_by, in_class, class_changed, open_class, add_member, has_name, member_named, plain_member, declare_alias, declare_class}
use Rattle.cf_elab.specs.Paths.{class_at_path}
use Rattle.cf_elab.specs.Specifiers.{Gathered, is_static, is_extern, automatic_at, storage_at, earlier}
use Rattle.cf_elab.specs.Declaration.{same_alias}

-- ---- bases (10)

abbrev pub own_access : Bool → Access
own_access true = access.Public
own_access false = access.Private

abbrev pub access_of_words : Access → List (ℕ × BaseWord) → Access
access_of_words a [] = a
access_of_words a ((at, base_word.Public) ∷ ws) = access_of_words access.Public ws
access_of_words a ((at, base_word.Private) ∷ ws) = access_of_words access.Private ws
access_of_words a ((at, base_word.Virtual) ∷ ws) = access_of_words a ws

abbrev pub has_virtual : List (ℕ × BaseWord) → Bool
has_virtual [] = false
has_virtual ((at, base_word.Virtual) ∷ ws) = true
has_virtual ((at, other) ∷ ws) = has_virtual ws

-- each is defined, K30, and stands once, K33
abbrev pub bases_row : Bool → List ℕ → List Base → Elab (List BaseDef)
bases_row is_struct before [] = gives []
bases_row is_struct before (b ∷ bs) = do
  c ← class_at_path b.path
  env ← known
  need (is_some (definition (defs env) c)) 30 b.path.at
  need (not (list_any (nat_eq c) before)) 33 b.path.at
  rest ← bases_row is_struct (c ∷ before) bs
  gives (record { class = c; is_virtual = has_virtual b.words; access = access_of_words (own_access is_struct) b.words } ∷ rest)

-- ---- data members and types

-- no `auto`, `register`, `extern`, `inline` or `virtual` on data; and no specifier at all is K24
abbrev pub field_conflict : ℕ → Gathered → Option ℕ
field_conflict at g =
    earlier g.conflict (earlier g.virtual_at (earlier g.inline_at (earlier (automatic_at g) (earlier (if is_extern g then storage_at g else None) (if g.is_empty then Some at else None)))))

abbrev pub method_conflict : Gathered → Option ℕ
method_conflict g = earlier g.conflict (earlier (automatic_at g) (earlier (if is_extern g then storage_at g else None) (if is_static g then g.virtual_at else None)))

abbrev pub field_member : Env → Gathered → Name → ℕ → ℕ → MemberDef
field_member env g name at t = record (plain_member env name at what.Field t) { is_static = is_static g }

-- K26; K30; a name twice K8
abbrev pub field_row : Gathered → Name → ℕ → ℕ → Elab (Unit {0})
field_row g name at t = do
  env ← known
  need (not (is_void (sort_of env.types t))) 26 at
  need (complete env t) 30 at
  need (not (has_name env name)) 8 at
  i ← add_member (field_member env g name at t)
  type_within t

-- what a member stands for, where it is a type
abbrev pub type_member : MemberDef → Option Entity
type_member m = of_what m.what
  where
    of_what : What → Option Entity
    of_what (what.Nested c) = Some (class_name c)
    of_what what.Alias = Some (type_alias m.ty)
    of_what other = None

-- a typedef: K8 unless the name stands for the same type (7.1.3)
abbrev pub member_alias : Name → ℕ → ℕ → Elab (Unit {0})
member_alias name at t = known >>= (λ env. unless_named env (member_named env name))
  where
    unless_named : Env → Option MemberDef → Elab (Unit {0})
    unless_named env None = declare_alias name at t
    unless_named env (Some m) = need (same_alias env t (type_member m)) 8 at

-- ---- the class

abbrev pub is_struct_key : ClassKey → Bool
is_struct_key key.Struct = true
is_struct_key other = false

abbrev pub access_named : WrittenAccess → Access
access_named written.Public = access.Public
access_named written.Protected = access.Protected
access_named written.Private = access.Private

abbrev pub access_row : WrittenAccess → Elab (Unit {0})
access_row a = class_changed (λ o. record o { access = access_named a })

abbrev pub no_def : Bool → List BaseDef → ClassDef
no_def is_struct bases = record { is_struct = is_struct; bases = bases; members = []; friends = [] }

-- from the end of its bases on, its members ask for access (11)
abbrev pub opened : ℕ → Bool → List BaseDef → Elab (Unit {0})
opened c is_struct bases = do
  changed (λ env. record env { open_classes = record { class = c; access = own_access is_struct; def = no_def is_struct bases } ∷ env.open_classes })
  asked_by (inside (record { class = c; index = 0 }))

-- the innermost class is defined by what it has
abbrev pub closing : Env → Env
closing env = elim env.open_classes [ [] ↦ env | o ∷ rest ↦ record env { open_classes = rest; classes = record env.classes { defined = env.classes.defined ++ (o.class, o.def) ∷ [] } } ]

abbrev pub new_class : Name → Elab ℕ
new_class name = do
  env ← known
  changed (λ e. record e { classes = record e.classes { labels = e.classes.labels ++ record { name = name; outer = open_class env } ∷ [] } })
  gives (length env.classes.labels)

abbrev pub is_defined : Env → ℕ → Bool
is_defined env c = is_some (definition (defs env) c) || list_any (λ (o : OpenClass). o.class == c) env.open_classes

-- a class that is declared and not defined yet, else a new one; anything else of the name is K8
abbrev pub class_to_define : Name → ℕ → Option Entity → Elab ℕ
class_to_define name at None = do
  c ← new_class name
  t ← intern (ty.Class c)
  declare_class name at c t
  gives c
class_to_define name at (Some (class_name c)) = known >>= (λ env. need (not (is_defined env c)) 8 at) >> gives c
class_to_define name at (Some other) = breaks 8 at

abbrev pub member_to_define : Name → ℕ → Option MemberDef → Elab ℕ
member_to_define name at None = class_to_define name at None
member_to_define name at (Some m) = if is_some (type_member m) then class_to_define name at (type_member m) else breaks 8 at

abbrev pub named_class : Name → ℕ → Elab ℕ
named_class name at = do
  env ← known
  if in_class env then member_to_define name at (member_named env name) else class_to_define name at (entity_of env (declared_here env name))

-- without a name it has that of the `typedef` that it stands in, else K48
abbrev pub class_of_name : ℕ → Option (ℕ × Name) → Option Name → Elab ℕ
class_of_name at (Some n) alias = named_class n.1 n.0
class_of_name at None (Some name) = new_class name
class_of_name at None None = breaks 48 at

-- ---- when it ends: the limits, then K35 and K36

abbrev pub most_classes : ℕ
most_classes = 512

abbrev pub most_subobjects : ℕ
most_subobjects = 64

-- a function that overrides another has its result (10.2)
abbrev pub result_differs : Env → MemberDef → MemberDef → Bool
result_differs env m v =
    may_override m && same_signature (signature env.types v) (signature env.types m) && not (result_of (fun_at env.types v.ty) == result_of (fun_at env.types m.ty))

abbrev pub first_result : Env → List MemberDef → List MemberDef → Option ℕ
first_result env inherited [] = None
first_result env inherited (m ∷ ms) = if list_any (result_differs env m) inherited then Some m.at else first_result env inherited ms

abbrev pub ending : ℕ → ℕ → ℕ → Elab (Unit {0})
ending at c t = do
  env ← known
  within (nat_le (length env.classes.defined) most_classes) bound.Classes most_classes
  within (nat_le (length (paths (defs env) c)) most_subobjects) bound.Subobjects most_subobjects
  type_within t
  none_at (first_result env (inherited_virtuals env.types (defs env) c) (members_of (defs env) c)) 35
  need (has_overriders env.types (defs env) c) 36 at
  within (nat_le (length (description env.types env.classes c)) most_name) bound.Names most_name

-- A class of a file or of a class: its name, its bases, its members in order. What its functions' bodies are waits until the outermost class ends
-- (9.3.2).
abbrev pub class_row : ℕ → ClassKey → Option (ℕ × Name) → List Base → List (Elab (Elab (Unit {0}))) → Option Name → Elab (ℕ × Elab (Unit {0}))
class_row at k name bases members alias = do
  env ← known
  need (is_file_scope env.scopes) 48 at
  c ← class_of_name at name alias
  t ← intern (ty.Class c)
  bs ← bases_row (is_struct_key k) [] bases
  around ← known
  opened c (is_struct_key k) bs
  later ← each (λ (m : Elab (Elab (Unit {0}))). m) members
  changed closing
  asked_by around.hand.asker
  ending at c t
  gives (t, for_each (λ (run : Elab (Unit {0})). run) later)
