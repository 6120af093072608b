-- Assignments, step by step.
use Rattle.std.proofs.Common.{◌≡◌, ℕ, false, None, Some, refl, ap}
use Rattle.cf_base.specs.declared.arith.Arith.{Arith}
use Rattle.cf_core.specs.declared.node.Core.TheVariants as node
use Rattle.cf_syntax.specs.declared.operator.AssignOp.{AssignOp}
use Rattle.cf_elab.specs.Answer.{Made, onward}
use Rattle.cf_elab.specs.Choice as choice
use Rattle.cf_elab.specs.Env.{Env}
use Rattle.cf_elab.specs.Operand.{Value, place_of}
use Rattle.cf_elab_env.proofs.Growth.{grown_laws}
use Rattle.cf_elab_fit.specs.Shut as fit
use Rattle.cf_elab_operators.specs.Binary.UnaryShut as unary
use Rattle.cf_elab_operators.proofs.BinaryLaws.UnaryPointerLaws.{unnumbered}
use Rattle.cf_elab_operators.specs.Assign.Shut as shut

module _ (at : ℕ) (v x : Value) (env : Env) where
  pub compound : (op : AssignOp) (o : Arith) → choice.updating op ≡ Some o → shut.assignment at op v x env ≡ shut.update at o v x env
  unfolding shut.assignment shut.update
  compound op o e = ap (λ u. choice.by_operator at u v x env) e

  pub simple : (op : AssignOp) → choice.updating op ≡ None → shut.assignment at op v x env ≡ shut.stored at v x env
  unfolding shut.assignment shut.stored
  simple op e = ap (λ u. choice.by_operator at u v x env) e

  pub stored_is : shut.stored at v x env
      ≡ onward (unary.need_modifiable at v env) (λ _ env. onward (fit.user_fit at x v.type env) (λ a env. Made (place_of at (node.Store at v.node a.node) v.type false) env))
  unfolding shut.stored unary.need_modifiable fit.user_fit
  stored_is = refl

  pub update_is : (o : Arith)
      → shut.update at o v x env ≡ onward (unary.need_modifiable at v env) (λ _ env. onward (fit.plain x env) (λ a env. shut.combined at o v a env))
  unfolding shut.update shut.combined unary.need_modifiable fit.plain
  update_is o = refl

pub ruleset assignment_laws = (compound, simple)

pub ruleset stored_laws = (stored_is, unnumbered, grown_laws)

pub ruleset update_laws = (update_is, grown_laws)
