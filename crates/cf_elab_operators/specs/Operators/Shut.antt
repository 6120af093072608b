-- The rows of operators whose operands may be class objects, each under a name of its own that does not unfold. `Rattle.cf_elab_operators.proofs.OperatorsLaws`
-- says what each is where no operand is one.
use Rattle.std.specs.Prelude.{ℕ, Bool}
use Rattle.cf_syntax.specs.declared.operator.AssignOp.{AssignOp}
use Rattle.cf_syntax.specs.declared.operator.BinaryOp.{BinaryOp}
use Rattle.cf_syntax.specs.declared.operator.PrefixOp.{PrefixOp}
use Rattle.cf_syntax.specs.declared.operator.StepOp.{StepOp}
use Rattle.cf_elab.specs.Answer.{Elab}
use Rattle.cf_elab.specs.ClassOperators as class
use Rattle.cf_elab.specs.Operand.{Value}

unfoldable pub binary_operator : ℕ → BinaryOp → Value → Value → Elab Value
binary_operator = class.binary_operator

unfoldable pub prefix_operator : ℕ → PrefixOp → Value → Elab Value
prefix_operator = class.prefix_operator

unfoldable pub step_operator : ℕ → StepOp → Bool → Value → Elab Value
step_operator = class.step_operator

unfoldable pub index_operator : ℕ → Value → Value → Elab Value
index_operator = class.index_operator

unfoldable pub assign_operator : ℕ → AssignOp → Value → Value → Elab Value
assign_operator = class.assign_operator
