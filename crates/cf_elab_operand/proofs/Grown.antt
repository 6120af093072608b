-- What is known of operands and of values stays true as the table of types grows.
use Rattle.std.proofs.Common.{List, All}
use Rattle.cf_types.specs.Table.{Table}
use Rattle.cf_elab.specs.Operand.{Value}
use Rattle.cf_elab_env.specs.declared.operand.Operand.{Operand as FoundOperand}
use Rattle.cf_elab_env.specs.declared.operand.Operand.TheVariants as form
use Rattle.cf_elab_env.specs.Holds.{Grows, Known}
use Rattle.cf_elab_env.proofs.Growth.{known_grown, All-into}
use Rattle.cf_elab_operand.specs.Operands.{IsOperand}

pub operand_grown : (a b : Table) (o : FoundOperand) → Grows a b → IsOperand a o → IsOperand b o
operand_grown a b (form.Value v) g k = known_grown a b v g k
operand_grown a b (form.Functions at fs) g k = tt

pub operands_grown : (a b : Table) (os : List FoundOperand) → Grows a b → All (λ o. IsOperand a o) os → All (λ o. IsOperand b o) os
operands_grown a b os g all = All-into (λ o. IsOperand a o) (λ o. IsOperand b o) os (λ o k. operand_grown a b o g k) all

pub values_grown : (a b : Table) (vs : List Value) → Grows a b → All (λ v. Known a v) vs → All (λ v. Known b v) vs
values_grown a b vs g all = All-into (λ v. Known a v) (λ v. Known b v) vs (λ v k. known_grown a b v g k) all

pub ruleset operands_grown_laws = (operand_grown, operands_grown, values_grown)
