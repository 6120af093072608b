-- Operators on one operand.
use Rattle.std.proofs.Common.{◌≡◌, ℕ, Bool, true, false, [], ◌∷◌, pos, refl, ap, ◌∙◌}
use Rattle.cf_syntax.specs.declared.operator.PrefixOp.{PrefixOp}
use Rattle.cf_syntax.specs.declared.operator.PrefixOp.TheVariants as prefix
use Rattle.cf_syntax.specs.declared.operator.StepOp.{StepOp}
use Rattle.cf_elab.specs.Answer.{Answer, Made, onward}
use Rattle.cf_elab.specs.ClassOperand as object
use Rattle.cf_elab.specs.ClassOperators as class
use Rattle.cf_elab.specs.Env.{Env}
use Rattle.cf_elab.specs.Operand.{Value, constant}
use Rattle.cf_elab.specs.Unary as plain
use Rattle.cf_elab_env.specs.Holds.{IsEnv, IsType, Known, Grows}
use Rattle.cf_elab_env.specs.Shut as made
use Rattle.cf_elab_env.proofs.Growth.{grown_laws, type_grown}
use Rattle.cf_elab_operators.specs.Binary.UnaryShut as unary
use Rattle.cf_elab_operators.specs.Operators.Shut as shut
use Rattle.cf_elab_operators.proofs.OperatorsLaws.NoObject.{scalar_is, alone, together}

module _ (at : ℕ) (x : Value) (env : Env) (e : IsEnv env) (known : IsType env.types x.type) where
  prefix_scalar : (op : PrefixOp) → class.prefix_of_scalar at op x env ≡ plain.prefixed at op x env
  prefix_scalar prefix.AddressOf = refl
  prefix_scalar prefix.Dereference = ap (λ r. onward r (plain.prefixed at prefix.Dereference)) (scalar_is env e 18 at x known)
  prefix_scalar prefix.Plus = ap (λ r. onward r (plain.prefixed at prefix.Plus)) (scalar_is env e 18 at x known)
  prefix_scalar prefix.Minus = ap (λ r. onward r (plain.prefixed at prefix.Minus)) (scalar_is env e 18 at x known)
  prefix_scalar prefix.Not = ap (λ r. onward r (plain.prefixed at prefix.Not)) (scalar_is env e 18 at x known)
  prefix_scalar prefix.Complement = ap (λ r. onward r (plain.prefixed at prefix.Complement)) (scalar_is env e 18 at x known)

pub prefix_is : (at : ℕ) (op : PrefixOp) (x : Value) (env : Env) → IsEnv env → Known env.types x → shut.prefix_operator at op x env ≡ unary.prefixed at op x env
unfolding shut.prefix_operator unary.prefixed
prefix_is at op x env e known = alone env e at (class.prefix_number op) x true (class.prefix_of_scalar at op x) known.typed ∙ prefix_scalar at x env e known.typed op

module _ (at : ℕ) (op : StepOp) (x : Value) where
  pub before : (p : Bool) (env : Env) → p ≡ false → IsEnv env → Known env.types x → shut.step_operator at op p x env ≡ unary.increment at op false x env
  unfolding shut.step_operator unary.increment
  before p env is e known =
      ap (λ p. class.step_operator at op p x env) is ∙ alone env e at (class.step_number op) x true (plain.increment at op false x) known.typed

  pub behind : (p : Bool) (env next : Env) (t : ℕ) → p ≡ true → made.int env ≡ Made t next → IsEnv next → Grows env.types next.types → Known env.types x → IsType next.types t
      → shut.step_operator at op p x env ≡ unary.increment at op true x next
  unfolding shut.step_operator unary.increment made.int
  behind p env next t is int e grows known typed =
      ap (λ p. class.step_operator at op p x env) is
      ∙ ap (λ r. after r) int
      ∙ together next e at (class.step_number op) x (constant at (pos 0) t) true (plain.increment at op true x) (type_grown env.types next.types x.type grows known.typed) typed
    where
      after : Answer ℕ → Answer Value
      after r =
          onward (onward r (λ t env. Made (constant at (pos 0) t ∷ []) env)) (λ vs. object.by_operator at (class.step_number op) x vs true (plain.increment at op true x))

pub ruleset prefix_laws = (prefix_is)

pub ruleset step_laws = (before, behind, grown_laws)
