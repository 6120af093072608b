-- Places that are changed, step by step.
use Rattle.std.proofs.Common.{◌≡◌, ℕ, Bool, false, refl}
use Rattle.cf_base.specs.declared.arith.Arith.{Arith}
use Rattle.cf_base.specs.declared.kind.Kind.{Kind}
use Rattle.cf_base.specs.Promotion.{promoted}
use Rattle.cf_core.specs.declared.node.Change.TheVariants as change
use Rattle.cf_core.specs.declared.node.Core.TheVariants as node
use Rattle.cf_elab.specs.Answer.{Made, onward}
use Rattle.cf_elab.specs.Choice.{operand_kind, operator_kind}
use Rattle.cf_elab.specs.Env.{Env}
use Rattle.cf_elab.specs.Operand.{Value, place_of}
use Rattle.cf_elab_env.proofs.Growth.{grown_laws}
use Rattle.cf_elab_fit.specs.Shut as fit
use Rattle.cf_elab_operators.specs.Binary.UnaryShut as unary
use Rattle.cf_elab_operators.specs.Assign.Shut as shut

module _ (at : ℕ) (v x : Value) (l : Kind) (env : Env) where
  pub of_integer_is : (o : Arith) (k : Kind)
      → shut.of_integer at o v k x l env ≡ onward (fit.to_kind (operand_kind o (promoted k) l) x env) (λ a env.
      Made (place_of at (node.Update at v.node (change.Arithmetic o (operator_kind o (promoted k) l) k) a.node) v.type false) env)
  unfolding shut.of_integer fit.to_kind
  of_integer_is o k = refl

  pub moved_is : (back : Bool) (t : ℕ)
      → shut.moved at back v t x l env ≡ onward (unary.need_complete at t env) (λ _ env. onward (fit.to_kind l x env) (λ a env.
      Made (place_of at (node.Update at v.node (change.Moved back) a.node) v.type false) env))
  unfolding shut.moved unary.need_complete fit.to_kind
  moved_is back t = refl

pub ruleset of_integer_laws = (of_integer_is, grown_laws)

pub ruleset moved_laws = (moved_is, grown_laws)
