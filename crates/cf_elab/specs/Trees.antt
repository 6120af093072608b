-- Statements, declarations, classes and functions by their trees (6, 7, 8.3, 9.2).
use Rattle.std.specs.Prelude.{ℕ, Bool, true, false, not, ◌&&◌, if◌then◌else◌, List, [], ◌∷◌, length, map, Option, None, Some, is_some}
use Rattle.std.specs.List.{list_any}
use Rattle.std.specs.Option.{option_map}
use Rattle.cf_syntax.specs.declared.name.Last.{Last}
use Rattle.cf_syntax.specs.declared.name.Last.TheVariants as last
use Rattle.cf_syntax.specs.declared.name.Name.{Name as WrittenName}
use Rattle.cf_types.specs.declared.ty.Ty.TheVariants as ty
use Rattle.cf_syntax.specs.declared.name.Path.{Path}
use Rattle.cf_syntax.specs.declared.specifier.ClassKey.TheVariants as key
use Rattle.cf_syntax.specs.declared.specifier.Storage.{Storage}
use Rattle.cf_syntax.specs.declared.specifier.Storage.TheVariants as storage
use Rattle.cf_syntax.specs.declared.specifier.TypeSpecifier.{TypeSpecifier}
use Rattle.cf_syntax.specs.declared.specifier.TypeSpecifier.TheVariants as specifier
use Rattle.cf_unit.specs.declared.statement.Stmt.{Stmt, fold-Stmt}
use Rattle.cf_unit.specs.declared.class.Member.TheOpen.{Member-F, Specifier-F, Stmt-F}
use Rattle.cf_syntax.specs.declared.specifier.ClassKey.{ClassKey}
use Rattle.cf_unit.specs.declared.class.Base.{Base}
use Rattle.cf_elab.specs.Generated.{generated}
use Rattle.cf_unit.specs.declared.class.ClassDef.{ClassDef-F}
use Rattle.cf_unit.specs.declared.class.FunctionDef.{FunctionDef, FunctionDef-F, fold-FunctionDef}
use Rattle.cf_unit.specs.declared.class.MemberDeclarator.{MemberDeclarator}
use Rattle.cf_unit.specs.declared.class.MemberInit.{MemberInit}
use Rattle.cf_unit.specs.declared.declaration.Declaration.{Declaration, Declaration-F, fold-Declaration}
use Rattle.cf_classes.specs.declared.class.Friend.TheVariants as friend
use Rattle.cf_core.specs.declared.node.Core.{Core as Node}
use Rattle.cf_elab.specs.Env.{Env, Name}
use Rattle.cf_elab.specs.Answer.{Elab, ◌>>=◌, ◌>>◌, gives, done, breaks, need, none_at, known, all, for_each}
use Rattle.cf_elab.specs.Made.{int, intern}
use Rattle.cf_elab.specs.Operand.{Sort, class_sort, sort_of, is_function}
use Rattle.cf_elab.specs.Names as names
use Rattle.cf_elab.specs.Paths.{Found, entity, type_behind_key}
use Rattle.cf_elab.specs.Complete.{types_within}
use Rattle.cf_elab.specs.Specifiers.{Word, Gathered, gathered, defined_word, base_type, is_typedef, type_word}
use Rattle.cf_elab.specs.Shape.{Shape, inner, function_of, nowhere, typed, bounds_constant}
use Rattle.cf_elab.specs.Declarator.{Declared, word_of}
use Rattle.cf_elab.specs.Expression.{elaborated, declared}
use Rattle.cf_elab.specs.Enumeration.{enumeration}
use Rattle.cf_elab.specs.Objects.{Reached}
use Rattle.cf_elab.specs.Functions.{declare_function}
use Rattle.cf_elab.specs.Declaration.{Declares, declares, declaration_row, unqualified, no_definition, function_says}
use Rattle.cf_elab.specs.ClassScope.{add_friend, declare_class, has_name}
use Rattle.cf_elab.specs.ClassDefinition.{new_class, access_row, class_row, field_conflict, field_row, member_alias}
use Rattle.cf_elab.specs.Methods.{declare_method}
use Rattle.cf_elab.specs.Bodies.{WrittenInit}
use Rattle.cf_elab.specs.Definition.{body_of, parameters_or, type_of_shaped, with_written_name, member_method, define_method, says_method}
use Rattle.cf_elab.specs.Statement.{Made, expression_row, empty_row, block_row, declaration_made, if_row, while_row, do_row, for_row, switch_row, case_row, default_row, break_row, continue_row, return_row}

-- ---- specifiers

-- a specifier, and the bodies that wait until the outermost class ends
pub record Specified : Type 0 where
  pub word : Word
  pub later : Elab (Unit {0})

-- whether it is `typedef`, and what it is in a `typedef` of this name
pub record SpecifierRow : Type 0 where
  pub says_typedef : Bool
  pub run : Option Name → Elab Specified

pub record Worded : Type 0 where
  pub list : List Word
  pub later : Elab (Unit {0})

abbrev pub MemberRow : Type 0
MemberRow = Elab (Elab (Unit {0}))

-- a class that is defined, at its key: its type, and the bodies that wait
pub record ClassRow : Type 0 where
  pub at : ℕ
  pub run : Option Name → Elab (ℕ × Elab (Unit {0}))

-- a function with its body in a file, and in a class
pub record FunctionRow : Type 0 where
  pub in_file : Elab (Unit {0})
  pub in_class : MemberRow

-- a declaration, with the types that it makes within their limit
pub record DeclarationRow : Type 0 where
  pub at : ℕ
  pub run : Elab (List Reached)

abbrev pub only : Word → Specified
only w = record { word = w; later = done }

abbrev pub in_turn : List Specified → Worded
in_turn xs = record { list = map (λ (x : Specified). x.word) xs; later = for_each (λ (x : Specified). x.later) xs }

abbrev pub words : Option Name → List SpecifierRow → Elab Worded
words alias list = all (map (λ (s : SpecifierRow). s.run alias) list) >>= (λ xs. gives (in_turn xs))

abbrev pub is_typedef_word : TypeSpecifier → Bool
is_typedef_word (specifier.Storage at s) = typedef_storage s
  where
    typedef_storage : Storage → Bool
    typedef_storage storage.Typedef = true
    typedef_storage other = false
is_typedef_word other = false

-- `class B` of an unknown B in a declaration enters a new class in the innermost scope (9.1), which has nothing else of the name, K8; the word stands at its key
abbrev pub new_class_word : ℕ → Path → Name → Elab Word
new_class_word at path name = do
  env ← known
  need (not (has_name env name)) 8 path.at
  c ← new_class name
  t ← intern (ty.Class c)
  declare_class name path.at c t
  gives (type_word at t)

abbrev pub word_unless_found : TypeSpecifier → ℕ → Path → Name → Found → Elab Word
word_unless_found s at path name (entity None) = new_class_word at path name
word_unless_found s at path name found = word_of s

abbrev pub class_word : TypeSpecifier → ℕ → Path → List Name → Elab Word
class_word s at path (name ∷ []) = if path.from_file then word_of s else (known >>= (λ env. word_unless_found s at path name (type_behind_key env false name)))
class_word s at path names = word_of s

abbrev pub word_in_declaration : TypeSpecifier → Elab Word
word_in_declaration (specifier.Elaborated at key.Class path) = class_word (specifier.Elaborated at key.Class path) at path path.names
word_in_declaration (specifier.Elaborated at key.Struct path) = class_word (specifier.Elaborated at key.Struct path) at path path.names
word_in_declaration s = word_of s

abbrev pub plain_row : TypeSpecifier → SpecifierRow
plain_row s = record { says_typedef = is_typedef_word s; run = λ alias. word_in_declaration s >>= (λ w. gives (only w)) }

abbrev pub defined_row : ℕ → (Option Name → Elab (ℕ × Elab (Unit {0}))) → SpecifierRow
defined_row at run = record { says_typedef = false; run = λ alias. run alias >>= (λ t. gives (record { word = defined_word at t.0; later = t.1 })) }

abbrev pub specifier_step : Specifier-F MemberRow SpecifierRow (Elab Made) ClassRow FunctionRow DeclarationRow → SpecifierRow
specifier_step (Specifier-F.Plain s) = plain_row s
specifier_step (Specifier-F.Class c) = defined_row c.at c.run
specifier_step (Specifier-F.Enumeration d) = defined_row d.at (λ alias. enumeration alias d >>= (λ t. gives (t, done)))

abbrev pub first_name : List Declares → Option Name
first_name [] = None
first_name (d ∷ ds) = name_in d.declared.name
  where
    ident : Last → Option Name
    ident (last.Ident name) = Some name
    ident other = None

    name_in : Option WrittenName → Option Name
    name_in None = None
    name_in (Some n) = ident n.last

-- the first name of a `typedef`, which a class or an enumeration without a name takes
abbrev pub alias_of : List SpecifierRow → List Declares → Option Name
alias_of ss ds = if list_any (λ (s : SpecifierRow). s.says_typedef) ss then first_name ds else None

abbrev pub declaration_of : ℕ → List SpecifierRow → List Declares → Elab (List Reached)
declaration_of at specifiers ds = do
  before ← known
  ws ← words (alias_of specifiers ds) specifiers
  ws.later
  rs ← declaration_row at (gathered ws.list) ds
  types_within (length before.types.types)
  gives rs

abbrev pub declaration_step : Declaration-F MemberRow SpecifierRow (Elab Made) ClassRow FunctionRow DeclarationRow → DeclarationRow
declaration_step d = record { at = d.at; run = declaration_of d.at d.specifiers (map declares d.declarators) }

-- a function with its body; behind it the types that its expressions made count too
abbrev pub definition_row : List SpecifierRow → ℕ → Declared → List WrittenInit → Elab Node → Elab (Unit {0})
definition_row specifiers at d inits body = do
  before ← known
  ws ← words None specifiers
  ws.later
  with_written_name (length before.types.types) (gathered ws.list) at d.shape inits body d.name
  types_within (length before.types.types)

abbrev pub method_of_name : Gathered → ℕ → Shape → List WrittenInit → Elab Node → Option WrittenName → Elab (Elab (Unit {0}))
method_of_name g at s inits body None = breaks 26 at
method_of_name g at s inits body (Some n) = do
  none_at g.friend_at 48
  m ← member_method g s None true n
  ps ← parameters_or n.last_at (function_of s)
  gives (define_method m ps inits body)

-- in its class: declared there, and its body waits
abbrev pub method_row : List SpecifierRow → ℕ → Declared → List WrittenInit → Elab Node → MemberRow
method_row specifiers at d inits body = do
  ws ← words None specifiers
  s ← d.shape
  later ← method_of_name (gathered ws.list) at s inits body d.name
  gives (ws.later >> later)

abbrev pub init_of : MemberInit → WrittenInit
init_of i = record { path = i.path; place = i.at; arguments = map elaborated i.arguments }

-- ---- members (9.2)

-- a declarator of a member, at its first token, with the place of the `=` of `= 0`
pub record MemberDeclares : Type 0 where
  pub at : ℕ
  pub declared : Declared
  pub pure_at : Option ℕ

abbrev pub member_declares : MemberDeclarator → MemberDeclares
member_declares d = record { at = d.at; declared = declared d.declarator; pure_at = d.pure }

-- a function of the file that is a friend (11.4)
abbrev pub friend_function : Gathered → Shape → WrittenName → Elab (Unit {0})
friend_function g s n = do
  unqualified n
  none_at g.conflict 24
  base ← base_type g
  x ← typed nowhere s base
  t ← type_of_shaped x
  bounds_constant s
  i ← int
  k ← declare_function i (function_says g n t s false false)
  add_friend (friend.Function (names.key n.last) t)

abbrev pub data_name : WrittenName → Last → Elab Name
data_name n (last.Ident name) = gives name
data_name n other = breaks 26 n.last_at

-- an object, a type, or a function by a named function type; an access declaration is K48 before all else (11.3)
abbrev pub data_or_type : MemberDeclares → Gathered → WrittenName → ℕ → Elab (Unit {0})
data_or_type d g n t = do
  env ← known
  if is_function (sort_of env.types t) && not (is_typedef g) then by_type env else by_name
  where
    by_type : Env → Elab (Unit {0})
    by_type env = declare_method (says_method env g n t inner d.pure_at false) >> done

    by_name : Elab (Unit {0})
    by_name = do
      name ← data_name n n.last
      none_at d.pure_at 24
      if is_typedef g then member_alias name n.last_at t else field_row g name n.last_at t

abbrev pub data_member : MemberDeclares → Gathered → Shape → WrittenName → Elab (Unit {0})
data_member d g s n = do
  unqualified n
  base ← base_type g
  none_at (if is_typedef g then g.conflict else field_conflict d.at g) 24
  no_definition g s
  x ← typed nowhere s base
  t ← type_of_shaped x
  bounds_constant s
  data_or_type d g n t

abbrev pub member_by_shape : MemberDeclares → Gathered → Shape → WrittenName → Elab (Unit {0})
member_by_shape d g s n =
    if is_some g.friend_at then friend_function g s n
    else (if is_some (function_of s) && not (is_typedef g) then (member_method g s d.pure_at false n >> done) else data_member d g s n)

abbrev pub member_by_name : MemberDeclares → Gathered → Shape → Option WrittenName → Elab (Unit {0})
member_by_name d g s None = breaks 26 d.at
member_by_name d g s (Some n) = member_by_shape d g s n

abbrev pub member_declarator : Gathered → MemberDeclares → Elab (Unit {0})
member_declarator g d = do
  s ← d.declared.shape
  member_by_name d g s d.declared.name

abbrev pub friend_class : ℕ → Option ℕ → Elab (Unit {0})
friend_class at None = breaks 24 at
friend_class at (Some t) = known >>= (λ env. of_sort (sort_of env.types t))
  where
    of_sort : Sort → Elab (Unit {0})
    of_sort (class_sort c) = add_friend (friend.Class c)
    of_sort other = breaks 24 at

abbrev pub no_declarators : ℕ → Gathered → Elab (Unit {0})
no_declarators at g = if is_some g.friend_at then friend_class at g.named else none_at (if g.is_empty then Some at else g.conflict) 24

abbrev pub members_declared : ℕ → Gathered → List MemberDeclares → Elab (Unit {0})
members_declared at g [] = no_declarators at g
members_declared at g (d ∷ ds) = for_each (member_declarator g) (d ∷ ds)

abbrev pub first_member_name : List MemberDeclares → Option Name
first_member_name ds = first_name (map (λ (d : MemberDeclares). record { at = d.at; declared = d.declared; initial = None }) ds)

abbrev pub member_declaration : ℕ → List SpecifierRow → List MemberDeclares → MemberRow
member_declaration at ss ds = do
  ws ← words (if list_any (λ (s : SpecifierRow). s.says_typedef) ss then first_member_name ds else None) ss
  members_declared at (gathered ws.list) ds
  gives ws.later

-- ---- a class with the functions that are generated for it, at the place of its name

abbrev pub name_place : ℕ → Option (ℕ × Name) → ℕ
name_place at None = at
name_place at (Some n) = n.0

abbrev pub class_with_functions : ℕ → ClassKey → Option (ℕ × Name) → List Base → List MemberRow → Option Name → Elab (ℕ × Elab (Unit {0}))
class_with_functions at k name bases members alias = do
  r ← class_row at k name bases members alias
  generated (name_place at name) r.0
  gives r

-- ---- the trees

abbrev pub definition_step : FunctionDef-F MemberRow SpecifierRow (Elab Made) ClassRow FunctionRow DeclarationRow → FunctionRow
definition_step f = record {
  in_file = definition_row f.specifiers f.declarator_at (declared f.declarator) (map init_of f.initialisers) (body_of f.body_at f.body);
  in_class = method_row f.specifiers f.declarator_at (declared f.declarator) (map init_of f.initialisers) (body_of f.body_at f.body);
}

abbrev pub statement_step : Stmt-F MemberRow SpecifierRow (Elab Made) ClassRow FunctionRow DeclarationRow → Elab Made
statement_step (Stmt-F.Stmt::Declaration d) = d.run >>= (λ rs. gives (declaration_made d.at rs))
statement_step (Stmt-F.Block at ss) = block_row at ss
statement_step (Stmt-F.Empty at) = empty_row at
statement_step (Stmt-F.Expression at x) = expression_row at (elaborated x)
statement_step (Stmt-F.If at x then_part else_part) = if_row at (elaborated x) then_part else_part
statement_step (Stmt-F.While at x s) = while_row at (elaborated x) s
statement_step (Stmt-F.Do at s x) = do_row at s (elaborated x)
statement_step (Stmt-F.For at first x step s) = for_row at first (option_map elaborated x) (option_map elaborated step) s
statement_step (Stmt-F.Switch at x ss) = switch_row at (elaborated x) ss
statement_step (Stmt-F.Case at x) = case_row at (elaborated x)
statement_step (Stmt-F.Default at) = default_row at
statement_step (Stmt-F.Break at) = break_row at
statement_step (Stmt-F.Continue at) = continue_row at
statement_step (Stmt-F.Return at x) = return_row at (option_map elaborated x)

abbrev pub member_step : Member-F MemberRow SpecifierRow (Elab Made) ClassRow FunctionRow DeclarationRow → MemberRow
member_step (Member-F.Access at a) = access_row a >> gives done
member_step (Member-F.Member::Declaration at ss ds) = member_declaration at ss (map member_declares ds)
member_step (Member-F.Function f) = f.in_class

abbrev pub class_step : ClassDef-F MemberRow SpecifierRow (Elab Made) ClassRow FunctionRow DeclarationRow → ClassRow
class_step c = record { at = c.at; run = class_with_functions c.at c.key c.name c.bases c.members }

abbrev pub statement : Stmt → Elab Made
statement = fold-Stmt MemberRow SpecifierRow (Elab Made) ClassRow FunctionRow DeclarationRow member_step specifier_step statement_step class_step definition_step declaration_step

abbrev pub declaration : Declaration → DeclarationRow
declaration = fold-Declaration MemberRow SpecifierRow (Elab Made) ClassRow FunctionRow DeclarationRow member_step specifier_step statement_step class_step definition_step declaration_step

abbrev pub definition : FunctionDef → FunctionRow
definition = fold-FunctionDef MemberRow SpecifierRow (Elab Made) ClassRow FunctionRow DeclarationRow member_step specifier_step statement_step class_step definition_step declaration_step
