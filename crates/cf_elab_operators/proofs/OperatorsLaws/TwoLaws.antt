-- Operators on two operands.
use Rattle.std.proofs.Common.{◌≡◌, ℕ, true, false, [], ◌∷◌, None, refl, ap, ◌∙◌}
use Rattle.cf_syntax.specs.declared.operator.AssignOp.{AssignOp}
use Rattle.cf_syntax.specs.declared.operator.AssignOp.TheVariants as assign
use Rattle.cf_syntax.specs.declared.operator.BinaryOp.{BinaryOp}
use Rattle.cf_elab.specs.Answer.{Elab, onward}
use Rattle.cf_elab.specs.Binary.{operation}
use Rattle.cf_elab.specs.Choice.{assignment}
use Rattle.cf_elab.specs.ClassOperand.{scalar, by_operator}
use Rattle.cf_elab.specs.ClassOperators as class
use Rattle.cf_elab.specs.Env.{Env}
use Rattle.cf_elab.specs.Operand.{Value}
use Rattle.cf_elab.specs.Unary.{subscript}
use Rattle.cf_elab_operators.specs.Assign.Shut as assigned
use Rattle.cf_elab_operators.specs.Binary.Shut as binary
use Rattle.cf_elab_env.specs.Holds.{IsEnv, IsType, Known}
use Rattle.cf_elab_operators.specs.Binary.UnaryShut as unary
use Rattle.cf_elab_operators.specs.Operators.Shut as shut
use Rattle.cf_elab_operators.proofs.OperatorsLaws.NoObject.{no_class_of, scalar_is, together}

module _ (at : ℕ) (x y : Value) (env : Env) (e : IsEnv env) (left : IsType env.types x.type) (right : IsType env.types y.type) where
  -- two operands that stay what they are
  both_scalars : (rule : ℕ) (go : Value → Value → Elab Value)
      → onward (scalar rule at x env) (λ a env. onward (scalar rule at y env) (λ b env. go a b env)) ≡ go x y env
  both_scalars rule go =
      ap (λ r. onward r (λ a env. onward (scalar rule at y env) (λ b env. go a b env))) (scalar_is env e rule at x left)
      ∙ ap (λ r. onward r (λ b env. go x b env)) (scalar_is env e rule at y right)

  update : (op : AssignOp) → class.update_scalar at op x y env ≡ assignment at op x y env
  update op = ap (λ r. onward r (assignment at op x)) (scalar_is env e 18 at y right)

  compound : (op : AssignOp) → by_operator at (class.update_number op) x (y ∷ []) true (class.update_scalar at op x y) env ≡ assignment at op x y env
  compound op = together env e at (class.update_number op) x y true (class.update_scalar at op x y) left right ∙ update op

  by_assignment : (op : AssignOp) → class.assigned_by_class at op x y None env ≡ assignment at op x y env
  by_assignment assign.Assign = refl
  by_assignment assign.Multiply = compound assign.Multiply
  by_assignment assign.Divide = compound assign.Divide
  by_assignment assign.Remainder = compound assign.Remainder
  by_assignment assign.Add = compound assign.Add
  by_assignment assign.Subtract = compound assign.Subtract
  by_assignment assign.ShiftLeft = compound assign.ShiftLeft
  by_assignment assign.ShiftRight = compound assign.ShiftRight
  by_assignment assign.BitAnd = compound assign.BitAnd
  by_assignment assign.BitXor = compound assign.BitXor
  by_assignment assign.BitOr = compound assign.BitOr

module _ (at : ℕ) (x y : Value) (env : Env) where
  pub binary_is : (op : BinaryOp) → IsEnv env → Known env.types x → Known env.types y → shut.binary_operator at op x y env ≡ binary.operation at op x y env
  unfolding shut.binary_operator binary.operation
  binary_is op e a b =
      together env e at (class.binary_number op) x y true (class.on_scalars at op x y) a.typed b.typed
      ∙ both_scalars at x y env e a.typed b.typed (class.operand_rule op) (operation at op)

  pub index_is : IsEnv env → Known env.types x → Known env.types y → shut.index_operator at x y env ≡ unary.subscript at x y env
  unfolding shut.index_operator unary.subscript
  index_is e a b =
      together env e at 26 x y false (class.index_scalars at x y) a.typed b.typed ∙ both_scalars at x y env e a.typed b.typed 18 (subscript at)

  pub assign_is : (op : AssignOp) → IsEnv env → Known env.types x → Known env.types y → shut.assign_operator at op x y env ≡ assigned.assignment at op x y env
  unfolding shut.assign_operator assigned.assignment
  assign_is op e a b =
      ap (λ c. class.assigned_by_class at op x y c env) (no_class_of env e x a.typed) ∙ by_assignment at x y env e a.typed b.typed op

pub ruleset binary_laws = (binary_is)

pub ruleset index_laws = (index_is)

pub ruleset assign_laws = (assign_is)
