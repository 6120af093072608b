-- Statements without bodies.
use Rattle.std.proofs.Common.{◌≡◌, ℕ, ap, sym, ◌∙◌}
use Rattle.cf_core.specs.declared.node.Core.TheVariants as node
use Rattle.cf_elab.specs.Answer.{Made as Elaborated}
use Rattle.cf_elab.specs.Env.{Env}
use Rattle.cf_elab.specs.Operand.{Value}
use Rattle.cf_elab.specs.Statement as row
use Rattle.cf_elab.specs.Statement.{Made}
use Rattle.cf_elab_env.specs.Holds.{IsEnv, IsType}
use Rattle.cf_elab_arith.proofs.ChoiceLaws.ClassFree.{unused_node}
use Rattle.cf_elab_statement.specs.Shut as shut

pub expression_is : (at : ℕ) (v : Value) (m : Made) (env : Env) → IsEnv env → IsType env.types v.type → m ≡ row.made at (node.Full at v.node) → shut.expression at v env ≡ Elaborated m env
unfolding shut.expression
expression_is at v m env e typed is = ap (λ n. Elaborated (row.made at (node.Full at n)) env) (unused_node env v e typed) ∙ ap (λ m. Elaborated m env) (sym is)
