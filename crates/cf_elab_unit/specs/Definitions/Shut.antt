-- Functions with a body, in steps under names that do not unfold. `Rattle.cf_elab_unit.proofs.DefinitionsLaws` says that a definition is these steps.
use Rattle.std.specs.Prelude.{◌≡◌, ℕ, Bool, true, false, if◌then◌else◌, List, [], ◌∷◌, ◌++◌, drop, length, map, Option, None, Some, slice_get}
use Rattle.cf_core.specs.declared.node.Core.{Core as Node}
use Rattle.cf_syntax.specs.declared.declarator.DeclTree.{DeclTree}
use Rattle.cf_syntax.specs.declared.name.Last.{Last}
use Rattle.cf_syntax.specs.declared.name.Last.TheVariants as last
use Rattle.cf_syntax.specs.declared.name.Name.{Name as WrittenName}
use Rattle.cf_unit.specs.declared.class.FunctionDef.{FunctionDef}
use Rattle.cf_unit.specs.declared.specifier.Specifier.{Specifier}
use Rattle.cf_unit.specs.declared.statement.Stmt.{Stmt}
use Rattle.cf_elab.specs.Access.{outside}
use Rattle.cf_elab.specs.Answer.{Elab, ◌>>=◌, ◌>>◌, gives, done, breaks, none_at, known, changed, hand_changed}
use Rattle.cf_elab.specs.Complete.{types_within}
use Rattle.cf_elab.specs.Declaration as declaration
use Rattle.cf_elab.specs.Definition as definition
use Rattle.cf_elab.specs.Env.{Hand, FunctionEntry, main_body, plain_body, local_home}
use Rattle.cf_elab.specs.Expression.{declared}
use Rattle.cf_elab.specs.Functions as functions
use Rattle.cf_elab.specs.Made.{int}
use Rattle.cf_elab.specs.Names.{is_main, enter_scope, leave_scope}
use Rattle.cf_elab.specs.Objects.{block_object, declare_in_block}
use Rattle.cf_elab.specs.Shape.{Parameter, Shape, function_of, nowhere, typed, bounds_constant}
use Rattle.cf_elab.specs.Specifiers.{Gathered, base_type}
use Rattle.cf_elab.specs.Trees as tree
use Rattle.cf_elab_built.specs.Built.Parts as place
use Rattle.cf_elab_unit.specs.Body.DeclarationShut.{specifier}

-- the hand of a function
abbrev pub hand_of : FunctionEntry → ℕ → List Parameter → Hand
hand_of f result ps = definition.body_hand f.link (if is_main f.link then main_body else plain_body) (outside f.name f.type) result ps

-- ---- parameters

abbrev by_last : ℕ → ℕ → ℕ → Last → Elab (Unit {0})
by_last i t at (last.Ident name) = declare_in_block name at (block_object t (local_home i) at)
by_last i t at other = breaks 26 at

unfoldable pub named_parameter : ℕ → ℕ → WrittenName → Elab (Unit {0})
named_parameter i t n = by_last i t n.last_at n.last

abbrev by_name : ℕ → ℕ → Option WrittenName → Elab (Unit {0})
by_name i t None = done
by_name i t (Some n) = named_parameter i t n

unfoldable pub declare_parameter : ℕ → Parameter → Elab (Unit {0})
declare_parameter i p = by_name i p.type p.name

unfoldable pub declare_parameters : ℕ → List Parameter → Elab (Unit {0})
declare_parameters = definition.declare_parameters

-- ---- a body

-- before its statements: its function is at hand, and its parameters are declared in a scope; the hand before
unfoldable pub begin_body : Hand → List Parameter → Elab Hand
begin_body h ps = do
  before ← known
  hand_changed (λ _. h)
  enter_scope
  definition.declare_parameters 0 ps
  gives before.hand

-- its statements, with the place of its `{`
unfoldable pub body_of : ℕ → List Stmt → Elab Node
body_of at body = definition.body_of at (map tree.statement body)

-- behind its statements: the function is one of the file's
unfoldable pub end_body : Hand → FunctionEntry → ℕ → List Parameter → Node → Elab (Unit {0})
end_body before f result ps n = do
  leave_scope
  behind ← known
  hand_changed (λ _. before)
  changed (λ e. record e { functions = e.functions ++ definition.core_function f result ps (n, drop (length ps) behind.hand.locals) ∷ [] })

-- the function of this entry, and of this number, with its body
unfoldable pub define : FunctionEntry → List Parameter → ℕ → List Stmt → Elab (Unit {0})
define f ps at body = definition.define_function ps (definition.body_of at (map tree.statement body)) (Some f)

unfoldable pub define_at : ℕ → List Parameter → ℕ → List Stmt → Elab (Unit {0})
define_at k ps at body = known >>= (λ env. definition.define_function ps (definition.body_of at (map tree.statement body)) (slice_get env.entries k))

-- ---- a definition behind its specifiers and its declarator

-- the specifiers do not conflict; else K24 at the first that does
unfoldable pub definition_conflict : Bool → ℕ → Gathered → Option ℕ
definition_conflict = definition.definition_conflict

unfoldable pub no_conflict : Bool → ℕ → Gathered → Elab (Unit {0})
no_conflict is_function at g = none_at (definition.definition_conflict is_function at g) 24

-- the type that is declared
unfoldable pub function_typed : Gathered → ℕ → Shape → Elab ℕ
function_typed g at s = do
  base ← base_type g
  env ← known
  no_conflict (declaration.declares_function env base s) at g
  declaration.no_definition g s
  x ← typed nowhere s base
  definition.type_of_shaped x

-- the function's declaration, with its number
unfoldable pub declare : Gathered → Shape → WrittenName → ℕ → Elab ℕ
declare g s n t = int >>= (λ i. functions.declare_function i (declaration.function_says g n t s true false))

-- behind its type, with its body; before the body no type that was made since there were so many is larger than the limit on sizes
unfoldable pub define_shape : ℕ → Gathered → Shape → WrittenName → ℕ → ℕ → List Stmt → Elab (Unit {0})
define_shape count g s n t at body = do
  ps ← definition.parameters_or n.last_at (function_of s)
  bounds_constant s
  k ← declare g s n t
  types_within count
  define_at k ps at body

-- the definition, without initialisers of members
unfoldable pub named : ℕ → Gathered → ℕ → Shape → WrittenName → ℕ → List Stmt → Elab (Unit {0})
named count g at s n body_at body = definition.named_definition count g at s [] (definition.body_of body_at (map tree.statement body)) n

-- ---- by its tree

-- behind the specifiers
unfoldable pub behind_specifiers : ℕ → Gathered → ℕ → DeclTree → ℕ → List Stmt → Elab (Unit {0})
behind_specifiers count g at d body_at body =
    definition.with_written_name count g at (declared d).shape [] (definition.body_of body_at (map tree.statement body)) (declared d).name

unfoldable pub of_parts : List Specifier → ℕ → DeclTree → ℕ → List Stmt → Elab (Unit {0})
of_parts ss at d body_at body = tree.definition_row (map specifier ss) at (declared d) [] (definition.body_of body_at (map tree.statement body))

unfoldable pub function : FunctionDef → Elab (Unit {0})
function f = (tree.definition f).in_file

-- whether all forms in it are built
unfoldable pub IsBuilt : FunctionDef → Type 0
IsBuilt f = place.function f ≡ None
