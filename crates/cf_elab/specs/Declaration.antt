-- Declarations of a file or a block (3, 6.7, 7, 8).
use Rattle.std.specs.Prelude.{ℕ, Bool, true, false, not, ◌==◌, ◌&&◌, ◌||◌, if◌then◌else◌, List, [], ◌∷◌, ◌++◌, length, map, codes, Option, None, Some, slice_get, is_some, bytes_eq}
use Rattle.std.specs.Option.{option_map, option_map_or}
use Rattle.cf_syntax.specs.declared.name.Last.{Last}
use Rattle.cf_syntax.specs.declared.name.Last.TheVariants as last
use Rattle.cf_syntax.specs.declared.name.Name.{Name as WrittenName}
use Rattle.cf_unit.specs.declared.initialiser.Initialiser.{Initialiser}
use Rattle.cf_unit.specs.declared.initialiser.Initialiser.TheVariants as initialiser
use Rattle.cf_unit.specs.declared.declaration.InitDeclarator.{InitDeclarator}
use Rattle.cf_classes.specs.LinkName.{Called, Main, Plain, Operator}
use Rattle.std.specs.List.{find, list_any}
use Rattle.cf_classes.specs.declared.class.MemberDef.{MemberDef}
use Rattle.cf_classes.specs.declared.class.What.{What}
use Rattle.cf_classes.specs.declared.class.What.TheVariants as what
use Rattle.cf_classes.specs.ClassTable.{members_of}
use Rattle.cf_types.specs.declared.ty.Ty.TheVariants as ty
use Rattle.cf_convert.specs.Constness.{type_at}
use Rattle.cf_core.specs.declared.unit.CoreStatic.{CoreStatic}
use Rattle.cf_elab.specs.Env.{Env, Name, Entity, alias, class_name, enum_name}
use Rattle.cf_elab.specs.Members.{static_link}
use Rattle.cf_elab.specs.Paths.{class_of_names}
use Rattle.cf_elab.specs.ClassScope.{in_class_scope}
use Rattle.cf_elab.specs.Answer.{Elab, ◌>>=◌, ◌>>◌, gives, done, breaks, need, none_at, known, each, maybe}
use Rattle.cf_elab.specs.Made.{int, array_of, same_ty}
use Rattle.cf_elab.specs.Operand.{Part, sort_of, is_function, is_void, defs}
use Rattle.cf_elab.specs.Names.{declared_here, declare, is_file_scope, key}
use Rattle.cf_elab.specs.Complete.{complete, type_within, types_within}
use Rattle.cf_elab.specs.Specifiers.{Gathered, base_type, is_typedef, is_static, is_extern, automatic_at, storage_at, earlier}
use Rattle.cf_elab.specs.Shape.{Parameter, Shape, is_inner, function_of, Position, Shaped, whole, unbounded, typed, bounds_constant, nowhere}
use Rattle.cf_elab.specs.Expression.{elaborated, declared}
use Rattle.cf_elab.specs.Declarator.{Declared, only_whole}
use Rattle.cf_elab.specs.Lists.{Tree, branch, listed, tree_of, outline_of, expression_outline, expression_tree, count_in}
use Rattle.cf_elab.specs.Objects as objects
use Rattle.cf_elab.specs.Objects.{Reached, Written, equals, bracketed, declare_linked, define_in_file, define_in_function, define_local}
use Rattle.cf_elab.specs.Functions as function
use Rattle.cf_elab.specs.Functions.{declare_function}

-- ---- initialisers

-- an initialiser, with its place; behind `=` its outline, and what its expressions become
pub data Initial : Type 0 where
  behind_equals : ℕ → Tree → Elab Tree → Initial
  in_brackets : ℕ → List Part → Initial

abbrev pub outline : Initial → Tree
outline (behind_equals at o t) = o
outline (in_brackets at xs) = branch at (listed (map (expression_outline at) xs))

abbrev pub written : Initial → Elab Written
written (behind_equals at o t) = t >>= (λ x. gives (equals at x))
written (in_brackets at xs) = each (expression_tree at) xs >>= (λ ts. gives (bracketed at ts))

abbrev pub parts_of : Option Initial → Elab (Option Written)
parts_of w = maybe written w

abbrev pub initial_place : Initial → ℕ
initial_place (behind_equals at o t) = at
initial_place (in_brackets at xs) = at

-- an initialiser where none may stand is K28, behind its parts
abbrev pub no_initialiser : Option Initial → Elab (Unit {0})
no_initialiser w = none_at (option_map_or (λ i. Some (initial_place i)) w None) 28

-- a declarator with its initialiser, at its first token
pub record Declares : Type 0 where
  pub at : ℕ
  pub declared : Declared
  pub initial : Option Initial

abbrev pub initial_of : Initialiser → Initial
initial_of (initialiser.Equals at i) = behind_equals at (outline_of i) (tree_of i)
initial_of (initialiser.Arguments at xs) = in_brackets at (map elaborated xs)

abbrev pub declares : InitDeclarator → Declares
declares d = record { at = d.at; declared = declared d.declarator; initial = option_map initial_of d.initialiser }

-- ---- specifiers that conflict (7.1): the first place at fault in the text

abbrev pub declares_function : Env → ℕ → Shape → Bool
declares_function env base s = is_some (function_of s) || (is_inner s && is_function (sort_of env.types base))

-- `virtual` and `friend` outside a class; `inline` on what is no function; `auto` and `register` in a file or on a function, and `static` on a function
-- in a block; no specifier at all on what is no function
abbrev pub conflict : Bool → Bool → ℕ → Gathered → Option ℕ
conflict in_file is_function at g =
    let general = earlier g.conflict (earlier g.virtual_at g.friend_at) in
    let inlined = if is_function && not (is_typedef g) then None else g.inline_at in
    let automatic = if in_file || is_function then automatic_at g else None in
    let static_in_block = if is_function && is_static g && not in_file then storage_at g else None in
    let empty = if g.is_empty && not is_function then Some at else None in
    earlier general (earlier inlined (earlier automatic (earlier static_in_block empty)))

-- ---- the three kinds

-- the declared name with its place, for what is no member
abbrev pub plain_name : WrittenName → Last → Elab Name
plain_name n (last.Ident name) = gives name
plain_name n other = breaks 26 n.last_at

abbrev pub unqualified : WrittenName → Elab (Unit {0})
unqualified n = need (elim n.scopes [ [] ↦ not n.from_file | s ∷ rest ↦ false ]) 48 n.at

-- a typedef: K8 unless the name stands for the same type (7.1.3)
abbrev pub same_alias : Env → ℕ → Option Entity → Bool
same_alias env t (Some (alias u)) = t == u
same_alias env t (Some (class_name c)) = same_ty (type_at env.types t) (ty.Class c)
same_alias env t (Some (enum_name e)) = same_ty (type_at env.types t) (ty.Enum e)
same_alias env t other = false

abbrev pub aliased : Name → ℕ → ℕ → Option ℕ → Elab (Unit {0})
aliased name at t None = declare name (alias t)
aliased name at t (Some e) = known >>= (λ env. need (same_alias env t (slice_get env.entities e)) 8 at)

abbrev pub typedef_row : Name → ℕ → ℕ → Option Initial → Elab (Unit {0})
typedef_row name at t w = do
  env ← known
  aliased name at t (declared_here env name)
  x ← parts_of w
  no_initialiser w

-- a function; operators are looked up by the piece of their link name
abbrev pub called_as : Bool → Last → Called
called_as in_file (last.Ident name) = if in_file && bytes_eq name (codes "main") then Main else Plain name
called_as in_file (last.Operator n) = Operator n
called_as in_file other = Plain (key other)

abbrev pub parameters_of : Shape → List Parameter
parameters_of s = option_map_or (λ ps. ps) (function_of s) []

abbrev pub function_says : Gathered → WrittenName → ℕ → Shape → Bool → Bool → function.Says
function_says g n t s defines initialised = record {
  name = key n.last;
  called = called_as true n.last;
  at = n.last_at;
  type = t;
  parameters = parameters_of s;
  is_static = is_static g;
  is_inline = is_some g.inline_at;
  defines = defines;
  is_initialised = initialised;
}

-- a conversion function is a member K47, and so is a destructor K42 (12.3.2, 12.4)
abbrev pub need_plain_name : Last → ℕ → Elab (Unit {0})
need_plain_name (last.Conversion specifiers pointers) at = breaks 47 at
need_plain_name (last.Destructor name) at = breaks 42 at
need_plain_name other at = done

abbrev pub function_row : Gathered → WrittenName → ℕ → Shape → Option Initial → Elab (Unit {0})
function_row g n t s w = do
  need_plain_name n.last n.last_at
  i ← int
  k ← declare_function i (function_says g n t s false (is_some w))
  x ← parts_of w
  no_initialiser w

-- an object of the file, or of a block: `extern` without an initialiser declares one of the file, and with one it is K28 in a block
abbrev pub object_says : Gathered → Name → ℕ → ℕ → Bool → Bool → objects.Says
object_says g name at t defines initialised = record {
  name = name;
  at = at;
  type = t;
  is_static = is_static g;
  is_extern = is_extern g;
  defines = defines;
  is_initialised = initialised;
}

abbrev pub only_declared : objects.Says → Elab (List Reached)
only_declared d = declare_linked d >> gives []

abbrev pub file_object : Gathered → Name → ℕ → ℕ → Elab (Option Written) → Option Initial → Elab (List Reached)
file_object g name at t parts w =
    if is_extern g && not (is_some w) then only_declared (object_says g name at t false (is_some w))
    else (define_in_file (object_says g name at t true (is_some w)) parts >> gives [])

abbrev pub block_object : Gathered → Name → ℕ → ℕ → Elab (Option Written) → Option Initial → Elab (List Reached)
block_object g name at t parts w =
    if is_extern g then (only_declared (object_says g name at t false (is_some w)) >> parts >> no_initialiser w >> gives [])
    else (if is_static g then define_in_function at name t parts else define_local at name t parts)

abbrev pub object_row : Bool → Gathered → Name → ℕ → ℕ → Elab (Option Written) → Option Initial → Elab (List Reached)
object_row in_file g name at t parts w = do
  env ← known
  need (not (is_void (sort_of env.types t))) 26 at
  need (complete env t) 30 at
  nodes ← if in_file then file_object g name at t parts w else block_object g name at t parts w
  type_within t
  gives nodes

-- ---- one declarator

abbrev pub has_given_bound : Gathered → Option Initial → Bool
has_given_bound g w = is_some w && not (is_typedef g)

abbrev pub position_of : Gathered → Option Initial → Position
position_of g w = record { unbounded = has_given_bound g w; const_function = false }

-- a class or an enumeration is not defined as the result of a function (8.2.5)
abbrev pub no_definition : Gathered → Shape → Elab (Unit {0})
no_definition g s = none_at (if is_some (function_of s) then g.defined_at else None) 26

abbrev pub by_kind : Bool → Gathered → WrittenName → Shape → Option Initial → ℕ → Elab (List Reached)
by_kind in_file g n s w t = do
  env ← known
  kind_of (is_typedef g) (is_function (sort_of env.types t))
  where
    kind_of : Bool → Bool → Elab (List Reached)
    kind_of true f = plain_name n n.last >>= (λ name. typedef_row name n.last_at t w) >> gives []
    kind_of false true = function_row g n t s w >> gives []
    kind_of false false = plain_name n n.last >>= (λ name. object_row in_file g name n.last_at t (parts_of w) w)

-- an array whose initialiser gives the bound, by its outline (8.2.4): so the object has its type before the expressions are elaborated
abbrev pub bound_given : ℕ → ℕ → Option Initial → Elab ℕ
bound_given at u None = breaks 26 at
bound_given at u (Some w) = known >>= (λ env. array_of u (count_in env.types u (outline w)))

abbrev pub by_shape : Bool → Gathered → WrittenName → Shape → Option Initial → Shaped → Elab (List Reached)
by_shape in_file g n s w (whole t) = by_kind in_file g n s w t
by_shape in_file g n s w (unbounded u) = do
  name ← plain_name n n.last
  t ← bound_given n.last_at u w
  object_row in_file g name n.last_at t (parts_of w) w

abbrev pub named_declarator : Gathered → ℕ → Option Initial → Shape → WrittenName → Elab (List Reached)
named_declarator g at w s n = do
  base ← base_type g
  env ← known
  none_at (conflict (is_file_scope env.scopes) (declares_function env base s) at g) 24
  unqualified n
  no_definition g s
  t ← typed (position_of g w) s base
  bounds_constant s
  by_shape (is_file_scope env.scopes) g n s w t

-- ---- a static data member, defined outside of its class (9.4)

abbrev pub is_static_data : Name → MemberDef → Bool
is_static_data name m = bytes_eq m.name name && m.is_static && field_what m.what
  where
    field_what : What → Bool
    field_what what.Field = true
    field_what other = false

abbrev pub static_data : Env → ℕ → Name → Option MemberDef
static_data env c name = find (is_static_data name) (members_of (defs env) c)

abbrev pub is_static_defined : Env → Name → Bool
is_static_defined env link = list_any (λ (x : CoreStatic). bytes_eq x.name link) env.statics

-- no such member K16; another type, or a second definition, K8; then as an object, with names as in the class
abbrev pub static_defined : ℕ → ℕ → ℕ → Name → Elab (Option Written) → Option MemberDef → Elab (List Reached)
static_defined at c t link parts None = breaks 16 at
static_defined at c t link parts (Some m) = do
  env ← known
  need (m.ty == t) 8 at
  need (not (is_static_defined env link)) 8 at
  w ← in_class_scope c parts
  s ← in_class_scope c (objects.start_or_none (objects.static_keeper link None at) at t w)
  objects.need_constant at w s
  objects.define_static (objects.static_of link t s.node None s.is_constant false)
  gives []

abbrev pub static_member_row : Gathered → ℕ → Option Initial → Shape → WrittenName → ℕ → Elab (List Reached)
static_member_row g at w s n c = do
  base ← base_type g
  env ← known
  none_at (conflict true (declares_function env base s) at g) 24
  no_definition g s
  x ← typed nowhere s base
  t ← only_whole x
  bounds_constant s
  name ← plain_name n n.last
  now ← known
  static_defined n.last_at c t (static_link now c name) (parts_of w) (static_data now c name)

-- a qualified declarator opens the scope of its class (9.3)
abbrev pub declarator_of_name : Gathered → ℕ → Option Initial → Elab Shape → WrittenName → List Name → Elab (List Reached)
declarator_of_name g at w shape n [] = shape >>= (λ s. named_declarator g at w s n)
declarator_of_name g at w shape n (q ∷ qs) = do
  c ← class_of_names n.at n.from_file q qs
  s ← in_class_scope c shape
  static_member_row g at w s n c

abbrev pub with_name : Gathered → ℕ → Option Initial → Elab Shape → Option WrittenName → Elab (List Reached)
with_name g at w shape None = shape >>= (λ s. breaks 26 at)
with_name g at w shape (Some n) = declarator_of_name g at w shape n n.scopes

abbrev pub declarator_row : Gathered → Declares → Elab (List Reached)
declarator_row g d = with_name g d.at d.initial d.declared.shape d.declared.name

-- one, which makes no type that is larger than the limit on sizes
abbrev pub limited_declarator : Gathered → Declares → Elab (List Reached)
limited_declarator g d = do
  before ← known
  xs ← declarator_row g d
  types_within (length before.types.types)
  gives xs

abbrev pub declarators_row : Gathered → List Declares → Elab (List Reached)
declarators_row g [] = gives []
declarators_row g (d ∷ ds) = do
  xs ← limited_declarator g d
  ys ← declarators_row g ds
  gives (xs ++ ys)

-- a declaration that declares no name: its specifiers do not conflict, and there is one
abbrev pub only_specifiers : ℕ → Gathered → Elab (Unit {0})
only_specifiers at g = do
  env ← known
  none_at (conflict (is_file_scope env.scopes) false at g) 24

abbrev pub declaration_row : ℕ → Gathered → List Declares → Elab (List Reached)
declaration_row at g [] = only_specifiers at g >> gives []
declaration_row at g (d ∷ ds) = declarators_row g (d ∷ ds)
