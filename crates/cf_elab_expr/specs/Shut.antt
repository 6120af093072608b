-- An expression with its parts, under names that do not unfold. `Rattle.cf_elab_expr.proofs` says what each is by its parts.
use Rattle.std.specs.Prelude.{◌≡◌, ℕ, Bool, List, map, Option, None}
use Rattle.std.specs.Option.{option_map}
use Rattle.cf_syntax.specs.declared.declarator.DeclTree.{DeclTree}
use Rattle.cf_syntax.specs.declared.declarator.Param.{Param, fold-Param}
use Rattle.cf_syntax.specs.declared.declarator.TypeId.{TypeId, fold-TypeId}
use Rattle.cf_syntax.specs.declared.expression.Expr.{Expr}
use Rattle.cf_syntax.specs.declared.name.Name.{Name as WrittenName}
use Rattle.cf_syntax.specs.declared.specifier.TypeSpecifier.{TypeSpecifier}
use Rattle.cf_elab.specs.Answer.{Elab, ◌>>=◌, gives, known, all, maybe}
use Rattle.cf_elab.specs.Built as built
use Rattle.cf_elab.specs.Built.{Place, first_of}
use Rattle.cf_elab.specs.Choice.{conditional, sequence}
use Rattle.cf_elab.specs.ClassOperators.{cast_operator}
use Rattle.cf_elab.specs.Declarator as declarator
use Rattle.cf_elab.specs.Declarator.{Declared, declared_step, parameter_step, type_id_step}
use Rattle.cf_elab.specs.Expression as expression
use Rattle.cf_elab.specs.Expression.{elaborated, declared, expression_step}
use Rattle.cf_elab.specs.Members.{class_number}
use Rattle.cf_elab.specs.Operand.{Value, Operand, Part, evaluated, value_of, sort_of}
use Rattle.cf_elab.specs.Shape as shape
use Rattle.cf_elab.specs.Shape.{Parameter, Shape}
use Rattle.cf_elab_shape.specs.TypeIds.Shut as type_row
use Rattle.cf_elab_shape.specs.TypeIds.Shut.{parameter_behind}

-- what an expression is, and its one value
unfoldable pub run : Expr → Elab Operand
run e = (elaborated e).run

unfoldable pub valued : Expr → Elab Value
valued e = evaluated (elaborated e)

-- the values of two, of which the first is elaborated and the second not yet; neither is looked at before both are
unfoldable pub second : Operand → Expr → Elab (Value × Value)
second o b = do
  p ← run b
  x ← value_of o
  y ← value_of p
  gives (x, y)

-- what is made of the two
unfoldable pub two : (Value → Value → Elab Value) → Operand → Expr → Elab Operand
two go o b = expression.one (second o b >>= (λ xy. go xy.0 xy.1))

-- a condition and what it chooses from, of which the last is not elaborated yet
unfoldable pub third : ℕ → Operand → Operand → Expr → Elab Operand
third at o p b = do
  q ← run b
  x ← value_of o
  y ← value_of p
  z ← value_of q
  expression.one (conditional at x y z)

-- what is called, with arguments that are not elaborated yet
unfoldable pub called : ℕ → Operand → List Expr → Elab Operand
called at o es = expression.values (map elaborated es) >>= (λ vs. expression.one (expression.call_operand at o vs))

-- operands between commas
unfoldable pub between : ℕ → List Expr → Elab Operand
between at es = expression.one (expression.values (map elaborated es) >>= sequence at)

-- a type with arguments, which are elaborated or not yet
unfoldable pub given_to : ℕ → ℕ → List Value → Elab Value
given_to at t vs = known >>= (λ env. expression.from_type at t vs (class_number (sort_of env.types t)))

unfoldable pub of_type : ℕ → ℕ → List Expr → Elab Operand
of_type at t es = expression.values (map elaborated es) >>= (λ vs. expression.one (given_to at t vs))

-- in order
unfoldable pub runs : List Expr → Elab (List Operand)
runs es = all (map run es)

-- the values of all, which are elaborated before the first is looked at
unfoldable pub values : List Expr → Elab (List Value)
values es = expression.values (map elaborated es)

-- the place of the last name, if there is one
unfoldable pub last_name : Expr → Option ℕ
last_name e = (elaborated e).last_name

-- ---- types in brackets, and declarators (8)

unfoldable pub type_of : TypeId → Elab ℕ
type_of = fold-TypeId Declared Part (Elab Parameter) (Elab ℕ) declared_step expression_step parameter_step type_id_step

-- the type of specifiers and a declarator, in brackets
unfoldable pub type_by : List TypeSpecifier → DeclTree → Elab ℕ
type_by ss d = declarator.type_from ss (declared d).shape

-- a value cast to a type, which is not elaborated yet
unfoldable pub cast_to : ℕ → ℕ → Expr → Elab Operand
cast_to at t e = expression.one (evaluated (elaborated e) >>= cast_operator at t)

-- what a declarator declares: its name, if it has one, and its operators with their bounds and parameters
unfoldable pub name_of : DeclTree → Option WrittenName
name_of d = (declared d).name

unfoldable pub shape_of : DeclTree → Elab Shape
shape_of d = (declared d).shape

-- the bound of an array, if there is one
unfoldable pub bound : Option Expr → Elab (Option Value)
bound b = maybe evaluated (option_map elaborated b)

unfoldable pub parameter : Param → Elab Parameter
parameter = fold-Param Declared Part (Elab Parameter) (Elab ℕ) declared_step expression_step parameter_step type_id_step

-- the parameter of specifiers and a declarator at its first token, which has no default argument
unfoldable pub parameter_by : ℕ → List TypeSpecifier → DeclTree → Elab Parameter
parameter_by at ss d = do
  ws ← declarator.words_of ss
  s ← (declared d).shape
  t ← parameter_behind ws s
  gives (record { at = at; name = (declared d).name; type = t; default = None; is_stored = type_row.is_stored ws })

-- one that is an object
unfoldable pub object_parameter : Param → Elab Parameter
object_parameter p = declarator.object_parameter (parameter p)

unfoldable pub object_parameters : List Param → Elab (List Parameter)
object_parameters ps = all (map object_parameter ps)

-- those of a function: `(void)` has none
unfoldable pub parameters : List Param → Elab (List Parameter)
parameters ps = declarator.parameters (map parameter ps)

-- a declarator of a function, and of an array, whose inside is elaborated
unfoldable pub taking : ℕ → List Param → Bool → Shape → Elab Shape
taking at ps is_const s = declarator.parameters (map parameter ps) >>= (λ qs. gives (shape.taking at qs is_const s))

unfoldable pub holding : ℕ → Option Expr → Shape → Elab Shape
holding at b s = maybe evaluated (option_map elaborated b) >>= (λ v. gives (shape.holding at v s))

-- ---- whether all forms in it are built

unfoldable pub IsBuilt : Expr → Type 0
IsBuilt e = built.expression e ≡ None

unfoldable pub AreBuilt : List Expr → Type 0
AreBuilt es = first_of (map built.expression es) ≡ None

unfoldable pub BoundIsBuilt : Option Expr → Type 0
BoundIsBuilt b = built.maybe (option_map built.expression b) ≡ None

unfoldable pub TreeIsBuilt : DeclTree → Type 0
TreeIsBuilt d = built.declarator d ≡ None

abbrev pub parameter_place : Param → Place
parameter_place = fold-Param Place Place Place Place built.tree_step built.expression_step built.param_step built.type_step

unfoldable pub ParameterIsBuilt : Param → Type 0
ParameterIsBuilt p = parameter_place p ≡ None

unfoldable pub ParametersAreBuilt : List Param → Type 0
ParametersAreBuilt ps = first_of (map parameter_place ps) ≡ None

abbrev pub type_place : TypeId → Place
type_place = fold-TypeId Place Place Place Place built.tree_step built.expression_step built.param_step built.type_step

unfoldable pub TypeIsBuilt : TypeId → Type 0
TypeIsBuilt t = type_place t ≡ None
