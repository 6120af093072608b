-- Expressions: each construct by its parts (5).
use Rattle.std.specs.Prelude.{ℕ, ◌+◌, Bool, true, false, List, [], ◌∷◌, ◌++◌, pos, ℤ, Option, None, Some, length, map}
use Rattle.cf_base.specs.declared.kind.Kind.{Kind}
use Rattle.cf_base.specs.declared.kind.Kind.TheVariants as kind
use Rattle.cf_syntax.specs.declared.declarator.DeclTree.{DeclTree, fold-DeclTree}
use Rattle.cf_syntax.specs.declared.declarator.DeclTree.TheOpen.{Expr-F}
use Rattle.cf_syntax.specs.declared.expression.Expr.{Expr, fold-Expr}
use Rattle.cf_syntax.specs.declared.operator.PrefixOp.{PrefixOp}
use Rattle.cf_syntax.specs.declared.operator.PrefixOp.TheVariants as prefix
use Rattle.cf_syntax.specs.declared.operator.BinaryOp.{BinaryOp}
use Rattle.cf_syntax.specs.declared.operator.BinaryOp.TheVariants as binary
use Rattle.cf_syntax.specs.declared.specifier.Pointer.{Pointer}
use Rattle.cf_syntax.specs.declared.specifier.TypeSpecifier.{TypeSpecifier}
use Rattle.cf_core.specs.declared.node.Core.TheVariants as node
use Rattle.cf_elab.specs.ClassOperators.{binary_operator, prefix_operator, step_operator, index_operator, call_operator, assign_operator, cast_operator}
use Rattle.cf_elab.specs.Answer.{Elab, ◌>>=◌, ◌>>◌, gives, breaks, known, hand_changed, all, each}
use Rattle.cf_elab.specs.Made.{of_kind, array_of}
use Rattle.cf_elab.specs.Operand.{Value, Operand, value, functions, methods, field_name, bound_method, Part, part, constant, place_of, value_of, evaluated, both, computed, sort_of}
use Rattle.cf_elab.specs.Members.{this_row, class_number}
use Rattle.cf_elab.specs.Paths.{type_at_path, named, named_in_class}
use Rattle.cf_elab.specs.Specifiers.{gathered, basic_word, base_type}
use Rattle.cf_elab.specs.Shape.{Parameter, Shape, inner}
use Rattle.cf_elab.specs.Declarator.{Declared, declared_step, parameter_step, type_id_step, type_from, pointed}
use Rattle.cf_elab.specs.Unary.{size_constant}
use Rattle.cf_elab.specs.Cast.{from_arguments}
use Rattle.cf_elab.specs.Choice.{conditional, sequence}
use Rattle.cf_elab.specs.Call.{call_functions}
use Rattle.cf_convert.specs.Constness.{bare}
use Rattle.cf_elab.specs.Construct.{constructed}
use Rattle.cf_elab.specs.MemberPointer.{address_of_operand, through_row, arrow_through_row, call_bound}
use Rattle.cf_elab.specs.MethodCall.{dot_row, arrow_row, call_methods}
use Rattle.cf_elab.specs.Allocation.{new_object, new_array, delete, shape_of_bounds}

abbrev pub one : Elab Value → Elab Operand
one run = run >>= (λ v. gives (value v))

-- the values of parts, which are all elaborated before the first is looked at
abbrev pub values : List Part → Elab (List Value)
values ps = all (map (λ (p : Part). p.run) ps) >>= each value_of

-- ---- constants

abbrev pub integer : ℕ → ℤ → Kind → Elab Operand
integer at z k = of_kind k >>= (λ t. gives (value (constant at z t)))

-- a string literal is an array of char with a 0 at its end; it has a number in its function (2.5.4)
abbrev pub literal : ℕ → List ℕ → Elab Operand
literal at bytes = do
  env ← known
  hand_changed (λ h. record h { literals = h.literals + 1 })
  c ← of_kind kind.Char
  t ← array_of c (length bytes + 1)
  gives (value (place_of at (node.Text at env.hand.literals (bytes ++ 0 ∷ [])) t true))

-- ---- calls, and types with arguments

abbrev pub call_operand : ℕ → Operand → List Value → Elab Value
call_operand at (functions n fs) vs = call_functions at fs vs
call_operand at (value v) vs = call_operator at v vs
call_operand at (methods m) vs = call_methods at m vs
call_operand at (field_name n c p m) vs = breaks 32 at
call_operand at (bound_method o p f) vs = call_bound at o p f vs

-- at the last name of what is called, or at the bracket
abbrev pub call_place : ℕ → Option ℕ → ℕ
call_place at None = at
call_place at (Some n) = n

abbrev pub call : ℕ → Part → List Part → Elab Operand
call at f args = do
  o ← f.run
  vs ← values args
  one (call_operand (call_place at f.last_name) o vs)

-- an object of a class by its constructors; any other type as a cast
abbrev pub from_type : ℕ → ℕ → List Value → Option ℕ → Elab Value
from_type at t vs None = from_arguments at t vs
from_type at t vs (Some c) = constructed at c vs >>= (λ n. known >>= (λ env. gives (computed at n (bare env.types t))))

abbrev pub built : ℕ → Elab ℕ → List Part → Elab Operand
built at type args = do
  t ← type
  vs ← values args
  one (known >>= (λ env. from_type at t vs (class_number (sort_of env.types t))))

-- ---- operators

abbrev pub with_one : Part → (Value → Elab Value) → Elab Operand
with_one a go = one (evaluated a >>= go)

abbrev pub with_two : Part → Part → (Value → Value → Elab Value) → Elab Operand
with_two a b go = one (both a b >>= (λ xy. go xy.0 xy.1))

abbrev pub binary_row : ℕ → BinaryOp → Part → Part → Elab Operand
binary_row at binary.DotStar a b = both a b >>= (λ xy. through_row at xy.0 xy.1)
binary_row at binary.ArrowStar a b = both a b >>= (λ xy. arrow_through_row at xy.0 xy.1)
binary_row at op a b = with_two a b (binary_operator at op)

abbrev pub conditional_row : ℕ → Part → Part → Part → Elab Operand
conditional_row at c a b = do
  o ← c.run
  p ← a.run
  q ← b.run
  x ← value_of o
  y ← value_of p
  z ← value_of q
  one (conditional at x y z)

-- `&` of a qualified name is a pointer to member where the member is nonstatic (5.3)
abbrev pub address_row : ℕ → Part → Option (Elab Operand) → Elab Operand
address_row at a None = with_one a (prefix_operator at prefix.AddressOf)
address_row at a (Some name) = one (name >>= address_of_operand at)

abbrev pub prefix_row : ℕ → PrefixOp → Part → Elab Operand
prefix_row at prefix.AddressOf a = address_row at a a.of_class
prefix_row at op a = with_one a (prefix_operator at op)

-- ---- sizeof: the operand is elaborated and not evaluated, so its literals are none of the function's

abbrev pub size_of_part : ℕ → Part → Elab Operand
size_of_part at a = do
  before ← known
  v ← evaluated a
  hand_changed (λ h. record h { literals = before.hand.literals })
  one (size_constant at v.type)

-- ---- new

abbrev pub pointed_shape : List Pointer → Shape → Elab Shape
pointed_shape [] s = gives s
pointed_shape (p ∷ ps) s = pointed_shape ps s >>= pointed p

abbrev pub new_row : ℕ → List TypeSpecifier → List Pointer → List Part → Bool → List Part → Elab Operand
new_row at specifiers pointers [] has_arguments args = do
  t ← type_from specifiers (pointed_shape pointers inner)
  vs ← values args
  one (new_object at t has_arguments vs)
new_row at specifiers pointers (b ∷ bs) has_arguments args = do
  n ← evaluated b
  ms ← values bs
  t ← type_from specifiers (pointed_shape pointers (shape_of_bounds at ms inner))
  vs ← values args
  one (new_array at t n has_arguments)

abbrev pub new_bracketed : ℕ → Elab ℕ → Bool → List Part → Elab Operand
new_bracketed at type has_arguments args = do
  t ← type
  vs ← values args
  one (new_object at t has_arguments vs)

-- ---- all of them

abbrev pub expression_step : Expr-F Declared Part (Elab Parameter) (Elab ℕ) → Part
expression_step (Expr-F.Int at n k) = part (integer at (pos n) k)
expression_step (Expr-F.Char at z) = part (integer at z kind.Char)
expression_step (Expr-F.Text at bytes) = record (part (literal at bytes)) { text = Some (at, bytes) }
expression_step (Expr-F.This at) = part (this_row at)
expression_step (Expr-F.Paren at a) = record (part a.run) { last_name = a.last_name }
expression_step (Expr-F.Named n) = record (part (named n)) { last_name = Some n.last_at; of_class = named_in_class n }
expression_step (Expr-F.BasicCall at b args) = part (built at (base_type (gathered (basic_word at b ∷ []))) args)
expression_step (Expr-F.TypeCall at path args) = part (built at (type_at_path path) args)
expression_step (Expr-F.Index at a b) = part (with_two a b (index_operator at))
expression_step (Expr-F.Call at f args) = part (call at f args)
expression_step (Expr-F.Dot at a n) = record (part (dot_row at a n)) { last_name = Some n.last_at }
expression_step (Expr-F.Arrow at a n) = record (part (arrow_row at a n)) { last_name = Some n.last_at }
expression_step (Expr-F.StepAfter at op a) = part (with_one a (step_operator at op true))
expression_step (Expr-F.StepBefore at op a) = part (with_one a (step_operator at op false))
expression_step (Expr-F.Prefix at op a) = part (prefix_row at op a)
expression_step (Expr-F.SizeofExpr at a) = part (size_of_part at a)
expression_step (Expr-F.SizeofType at t) = part (t >>= (λ u. one (size_constant at u)))
expression_step (Expr-F.Delete at file is_array a) = part (with_one a (delete at is_array))
expression_step (Expr-F.New at file specifiers pointers bounds has_arguments args) = part (new_row at specifiers pointers bounds has_arguments args)
expression_step (Expr-F.NewBracketed at file t has_arguments args) = part (new_bracketed at t has_arguments args)
expression_step (Expr-F.Cast at t a) = part (t >>= (λ u. with_one a (cast_operator at u)))
expression_step (Expr-F.Binary at op a b) = part (binary_row at op a b)
expression_step (Expr-F.Conditional at c a b) = part (conditional_row at c a b)
expression_step (Expr-F.Assign at op a b) = part (with_two a b (assign_operator at op))
expression_step (Expr-F.Comma at all) = part (one (values all >>= sequence at))

abbrev pub elaborated : Expr → Part
elaborated = fold-Expr Declared Part (Elab Parameter) (Elab ℕ) declared_step expression_step parameter_step type_id_step

abbrev pub declared : DeclTree → Declared
declared = fold-DeclTree Declared Part (Elab Parameter) (Elab ℕ) declared_step expression_step parameter_step type_id_step
