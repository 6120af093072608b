-- Operators whose operands may be class objects (5, 13.4).
use Rattle.std.specs.Prelude.{ℕ, Bool, true, false, if◌then◌else◌, List, [], ◌∷◌, pos, Option, None, Some}
use Rattle.cf_convert.specs.Constness.{bare}
use Rattle.cf_convert.specs.UserConversion.{User, Nothing, by_user}
use Rattle.cf_syntax.specs.declared.operator.AssignOp.{AssignOp}
use Rattle.cf_syntax.specs.declared.operator.AssignOp.TheVariants as assign
use Rattle.cf_syntax.specs.declared.operator.BinaryOp.{BinaryOp}
use Rattle.cf_syntax.specs.declared.operator.BinaryOp.TheVariants as binary
use Rattle.cf_syntax.specs.declared.operator.PrefixOp.{PrefixOp}
use Rattle.cf_syntax.specs.declared.operator.PrefixOp.TheVariants as prefix
use Rattle.cf_syntax.specs.declared.operator.StepOp.{StepOp}
use Rattle.cf_syntax.specs.declared.operator.StepOp.TheVariants as step
use Rattle.cf_elab.specs.Answer.{Elab, ◌>>=◌, gives, breaks, known}
use Rattle.cf_elab.specs.Made.{int}
use Rattle.cf_elab.specs.Operand.{Value, val, defs, constant, computed, Sort, sort_of, void_sort, reference_sort}
use Rattle.cf_elab.specs.Binary.{operation}
use Rattle.cf_elab.specs.Call.{call_value}
use Rattle.cf_elab.specs.Cast.{cast}
use Rattle.cf_elab.specs.Choice.{assignment}
use Rattle.cf_elab.specs.ClassObjects.{class_assigned}
use Rattle.cf_elab.specs.ClassOperand.{scalar, by_operator, is_object}
use Rattle.cf_elab.specs.Construct.{constructed}
use Rattle.cf_elab.specs.Members.{class_number}
use Rattle.cf_elab.specs.Unary.{increment, prefixed, subscript}
use Rattle.cf_elab.specs.UserFit.{fit}

-- ---- the numbers of the operators in the table of link names

abbrev pub binary_number : BinaryOp → ℕ
binary_number binary.LogicalOr = 17
binary_number binary.LogicalAnd = 16
binary_number binary.BitOr = 14
binary_number binary.BitXor = 15
binary_number binary.BitAnd = 13
binary_number binary.Equal = 7
binary_number binary.NotEqual = 8
binary_number binary.Less = 9
binary_number binary.Greater = 10
binary_number binary.LessEqual = 11
binary_number binary.GreaterEqual = 12
binary_number binary.ShiftLeft = 5
binary_number binary.ShiftRight = 6
binary_number binary.Add = 3
binary_number binary.Subtract = 4
binary_number binary.Multiply = 0
binary_number binary.Divide = 1
binary_number binary.Remainder = 2
binary_number binary.DotStar = 255
binary_number binary.ArrowStar = 24

abbrev pub prefix_number : PrefixOp → ℕ
prefix_number prefix.Dereference = 0
prefix_number prefix.AddressOf = 13
prefix_number prefix.Plus = 3
prefix_number prefix.Minus = 4
prefix_number prefix.Not = 18
prefix_number prefix.Complement = 19

abbrev pub step_number : StepOp → ℕ
step_number step.Increment = 20
step_number step.Decrement = 21

abbrev pub update_number : AssignOp → ℕ
update_number assign.Assign = 22
update_number assign.Add = 28
update_number assign.Subtract = 29
update_number assign.Multiply = 30
update_number assign.Divide = 31
update_number assign.Remainder = 32
update_number assign.ShiftLeft = 33
update_number assign.ShiftRight = 34
update_number assign.BitAnd = 35
update_number assign.BitOr = 36
update_number assign.BitXor = 37

-- ---- the operator function that the operands choose; else each class operand is converted to an arithmetic or pointer type

-- a side of && or || that is no condition is K13
abbrev pub operand_rule : BinaryOp → ℕ
operand_rule binary.LogicalAnd = 13
operand_rule binary.LogicalOr = 13
operand_rule op = 18

abbrev pub on_scalars : ℕ → BinaryOp → Value → Value → Elab Value
on_scalars at op x y = do
  a ← scalar (operand_rule op) at x
  b ← scalar (operand_rule op) at y
  operation at op a b

abbrev pub binary_operator : ℕ → BinaryOp → Value → Value → Elab Value
binary_operator at op x y = by_operator at (binary_number op) x (y ∷ []) true (on_scalars at op x y)

-- `&` of an object is its address where no function is declared for it
abbrev pub prefix_of_scalar : ℕ → PrefixOp → Value → Elab Value
prefix_of_scalar at prefix.AddressOf x = prefixed at prefix.AddressOf x
prefix_of_scalar at op x = scalar 18 at x >>= prefixed at op

abbrev pub prefix_operator : ℕ → PrefixOp → Value → Elab Value
prefix_operator at op x = by_operator at (prefix_number op) x [] true (prefix_of_scalar at op x)

-- behind its operand the operator has a second one, which is an int
abbrev pub step_arguments : ℕ → Bool → Elab (List Value)
step_arguments at false = gives []
step_arguments at true = int >>= (λ t. gives (constant at (pos 0) t ∷ []))

abbrev pub step_operator : ℕ → StepOp → Bool → Value → Elab Value
step_operator at op is_postfix x = step_arguments at is_postfix >>= (λ vs. by_operator at (step_number op) x vs true (increment at op is_postfix x))

-- `[]`, `()` and `=` are members alone
abbrev pub index_scalars : ℕ → Value → Value → Elab Value
index_scalars at x y = do
  a ← scalar 18 at x
  b ← scalar 18 at y
  subscript at a b

abbrev pub index_operator : ℕ → Value → Value → Elab Value
index_operator at x y = by_operator at 26 x (y ∷ []) false (index_scalars at x y)

abbrev pub call_object : ℕ → Value → List Value → Bool → Elab Value
call_object at x vs true = by_operator at 25 x vs false (breaks 46 at)
call_object at x vs false = call_value at x vs

abbrev pub call_operator : ℕ → Value → List Value → Elab Value
call_operator at x vs = known >>= (λ env. call_object at x vs (is_object env x))

abbrev pub update_scalar : ℕ → AssignOp → Value → Value → Elab Value
update_scalar at op x y = scalar 18 at y >>= assignment at op x

abbrev pub assigned_by_class : ℕ → AssignOp → Value → Value → Option ℕ → Elab Value
assigned_by_class at assign.Assign x y (Some c) = class_assigned at c x y
assigned_by_class at assign.Assign x y None = assignment at assign.Assign x y
assigned_by_class at op x y c = by_operator at (update_number op) x (y ∷ []) true (update_scalar at op x y)

abbrev pub assign_operator : ℕ → AssignOp → Value → Value → Elab Value
assign_operator at op x y = known >>= (λ env. assigned_by_class at op x y (class_number (sort_of env.types x.type)))

-- ---- casts to and from classes (5.4): to a class by its constructors, from one by a user's function

abbrev pub is_nothing : User → Bool
is_nothing Nothing = true
is_nothing other = false

abbrev pub cast_object : ℕ → ℕ → Value → Sort → Elab Value
cast_object at t v void_sort = cast at t v
cast_object at t v (reference_sort u) = cast at t v
cast_object at t v s = do
  env ← known
  if is_nothing (by_user env.types (defs env) (val v) (bare env.types t)) then breaks 17 at else fit at v t

abbrev pub cast_by_class : ℕ → ℕ → Value → Option ℕ → Bool → Elab Value
cast_by_class at t v (Some c) object = constructed at c (v ∷ []) >>= (λ n. known >>= (λ env. gives (computed at n (bare env.types t))))
cast_by_class at t v None true = known >>= (λ env. cast_object at t v (sort_of env.types t))
cast_by_class at t v None false = cast at t v

abbrev pub cast_operator : ℕ → ℕ → Value → Elab Value
cast_operator at t v = known >>= (λ env. cast_by_class at t v (class_number (sort_of env.types t)) (is_object env v))
