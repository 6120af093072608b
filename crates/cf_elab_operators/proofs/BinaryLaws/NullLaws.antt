-- Values compared as values of one type, and with the constant 0.
use Rattle.std.proofs.Common.{◌≡◌, ℕ, Bool, true, false, if◌then◌else◌, Option, None, Some, refl, ap, ◌∙◌}
use Rattle.cf_core.specs.declared.operators.PointerOperator.{PointerOperator}
use Rattle.cf_syntax.specs.declared.operator.BinaryOp.{BinaryOp}
use Rattle.cf_elab.specs.Answer.{Answer, Refused, onward, breaks}
use Rattle.cf_elab.specs.Binary as binary
use Rattle.cf_elab.specs.Env.{Env}
use Rattle.cf_elab.specs.Operand.{Value, is_zero}
use Rattle.cf_elab_env.proofs.Growth.{grown_laws}
use Rattle.cf_elab_fit.specs.Shut as fit
use Rattle.cf_elab_operators.specs.Binary.Shut as shut

module _ (at : ℕ) (op : BinaryOp) (x y : Value) (env : Env) where
  abbrev by : Bool → Bool → Answer Value
  by right left =
      (if right then binary.with_other at (binary.equality op) x y x.type else (if left then binary.with_other at (binary.equality op) x y y.type else breaks 18 at)) env

  pub right_zero : is_zero y.number ≡ true → shut.with_null at op x y env ≡ shut.with_other at (binary.equality op) x y x.type env
  unfolding shut.with_null shut.with_other
  right_zero r = ap (λ right. by right (is_zero x.number)) r

  pub left_zero : is_zero y.number ≡ false → is_zero x.number ≡ true → shut.with_null at op x y env ≡ shut.with_other at (binary.equality op) x y y.type env
  unfolding shut.with_null shut.with_other
  left_zero r l = ap (λ right. by right (is_zero x.number)) r ∙ ap (by false) l

  pub no_zero : is_zero y.number ≡ false → is_zero x.number ≡ false → shut.with_null at op x y env ≡ Refused 18 at
  unfolding shut.with_null
  no_zero r l = ap (λ right. by right (is_zero x.number)) r ∙ ap (by false) l

module _ (at : ℕ) (o : Option PointerOperator) (x y : Value) (t : ℕ) (env : Env) where
  pub compared : (p : PointerOperator) → o ≡ Some p → shut.with_other at o x y t env ≡ shut.both_fitted at p x y t env
  unfolding shut.with_other shut.both_fitted
  compared p is = ap (λ o. binary.with_other at o x y t env) is

  pub not_compared : o ≡ None → shut.with_other at o x y t env ≡ Refused 18 at
  unfolding shut.with_other
  not_compared is = ap (λ o. binary.with_other at o x y t env) is

pub both_fitted_is : (at : ℕ) (p : PointerOperator) (x y : Value) (t : ℕ) (env : Env)
    → shut.both_fitted at p x y t env ≡ onward (fit.fit at x t env) (λ a env. onward (fit.fit at y t env) (λ b env. shut.of_pointers at p a b env))
unfolding shut.both_fitted shut.of_pointers fit.fit
both_fitted_is at p x y t env = refl

pub ruleset with_null_laws = (right_zero, left_zero, no_zero)

pub ruleset with_other_laws = (compared, not_compared)

pub ruleset both_fitted_laws = (both_fitted_is, grown_laws)
