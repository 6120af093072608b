-- Operators that read both operands, and those on truth.
use Rattle.std.proofs.Common.{◌≡◌, ℕ, refl, ap}
use Rattle.cf_syntax.specs.declared.operator.BinaryOp.{BinaryOp}
use Rattle.cf_syntax.specs.declared.operator.BinaryOp.TheVariants as op
use Rattle.cf_elab.specs.Answer.{onward}
use Rattle.cf_elab.specs.Binary as binary
use Rattle.cf_elab.specs.Env.{Env}
use Rattle.cf_elab.specs.Operand.{Value}
use Rattle.cf_elab_env.proofs.Growth.{grown_laws}
use Rattle.cf_elab_arith.specs.Arith.Shut as arith
use Rattle.cf_elab_fit.specs.Shut as fit
use Rattle.cf_elab_operators.specs.Binary.Shut as shut

module _ (at : ℕ) (x y : Value) (env : Env) where
  pub both_conditions : (o : BinaryOp) → o ≡ op.LogicalAnd → shut.operation at o x y env ≡ arith.conjunction at x y env
  unfolding shut.operation arith.conjunction
  both_conditions o is = ap (λ o. binary.operation at o x y env) is

  pub one_condition : (o : BinaryOp) → o ≡ op.LogicalOr → shut.operation at o x y env ≡ arith.disjunction at x y env
  unfolding shut.operation arith.disjunction
  one_condition o is = ap (λ o. binary.operation at o x y env) is

  pub no_condition : (o : BinaryOp) → (o ≡ op.LogicalAnd → ⊥) → (o ≡ op.LogicalOr → ⊥) → shut.operation at o x y env ≡ shut.of_plain at o x y env
  unfolding shut.operation shut.of_plain shut.by_sorts
  no_condition op.LogicalAnd a o = absurd (a refl)
  no_condition op.LogicalOr a o = absurd (o refl)
  no_condition other a o = refl

  pub of_plain_is : (o : BinaryOp)
      → shut.of_plain at o x y env ≡ onward (fit.plain x env) (λ a env. onward (fit.plain y env) (λ b env. shut.by_sorts at o a b env))
  unfolding shut.of_plain fit.plain
  of_plain_is o = refl

pub ruleset operation_laws = (both_conditions, one_condition, no_condition)

pub ruleset of_plain_laws = (of_plain_is, grown_laws)
