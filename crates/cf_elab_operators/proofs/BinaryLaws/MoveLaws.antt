-- Pointers that are moved by integers, and compared with the constant 0.
use Rattle.std.proofs.Common.{◌≡◌, ℕ, true, false, ◌&&◌, is_some, ℤ, Option, None, Some, refl, ap}
use Rattle.cf_base.specs.declared.kind.Kind.{Kind}
use Rattle.cf_core.specs.declared.node.Core.{Core as Node}
use Rattle.cf_core.specs.declared.node.Core.TheVariants as node
use Rattle.cf_core.specs.declared.operators.PointerOperator.{PointerOperator}
use Rattle.cf_core.specs.declared.operators.PointerOperator.TheVariants as pointer
use Rattle.cf_syntax.specs.declared.operator.BinaryOp.{BinaryOp}
use Rattle.cf_syntax.specs.declared.operator.BinaryOp.TheVariants as op
use Rattle.cf_elab.specs.Answer.{Answer, Made, Refused, Passed, onward}
use Rattle.cf_elab.specs.Binary as binary
use Rattle.cf_elab.specs.Env.{Env}
use Rattle.cf_elab.specs.Operand.{Value, computed}
use Rattle.cf_elab_env.proofs.Growth.{grown_laws}
use Rattle.cf_elab_fit.specs.Shut as fit
use Rattle.cf_elab_arith.specs.Unary.Fixed.{stays_fixed}
use Rattle.cf_elab_arith.specs.Unary.Shut as unary
use Rattle.cf_elab_arith.proofs.UnaryLaws.PointerLaws.{unnumbered}
use Rattle.cf_elab_operators.specs.Binary.Shut as shut

-- the pointer of this node, where the integer is this
abbrev as_moved : ℕ → (Value → Node) → Value → Value → Value
as_moved at make p b = record (computed at (make b) p.type) { is_fixed = stays_fixed p b }

some_number : (z : Option ℤ) → (elim z [ None ↦ false | Some n ↦ true ]) ≡ is_some z
some_number None = refl
some_number (Some n) = refl

-- whether the number is known, as the definition asks it
same_fixed : (at : ℕ) (make : Value → Node) (p : Value) (r : Answer Value)
    → onward r (λ b env. Made (record (computed at (make b) p.type) { is_fixed = p.is_fixed && (elim b.number [ None ↦ false | Some z ↦ true ]) }) env)
    ≡ onward r (λ b env. Made (as_moved at make p b) env)
same_fixed at make p (Made b env) = ap (λ c. Made (record (computed at (make b) p.type) { is_fixed = p.is_fixed && c }) env) (some_number b.number)
same_fixed at make p (Refused rule place) = refl
same_fixed at make p (Passed bound most) = refl

-- the same behind a check
behind : (c : Answer (Unit {0})) (f g : Env → Answer Value) → ((env : Env) → f env ≡ g env) → onward c (λ _ env. f env) ≡ onward c (λ _ env. g env)
behind (Made u env) f g same = same env
behind (Refused rule place) f g same = refl
behind (Passed bound most) f g same = refl

module _ (at : ℕ) (p : Value) (t : ℕ) (k : Kind) (i : Value) (env : Env) where
  pub moved_is : (o : PointerOperator) → shut.moved at o p t k i env
      ≡ onward (unary.need_complete at t env) (λ _ env. onward (fit.to_kind k i env) (λ b env.
      Made (record (computed at (node.PointerOperate at o p.node b.node) p.type) { is_fixed = stays_fixed p b }) env))
  unfolding shut.moved unary.need_complete fit.to_kind
  moved_is o = behind (unary.need_complete at t env) _ _ (λ env. same_fixed at (λ b. node.PointerOperate at o p.node b.node) p (fit.to_kind k i env))

  pub moved_right_is : shut.moved_right at k i p t env
      ≡ onward (unary.need_complete at t env) (λ _ env. onward (fit.to_kind k i env) (λ b env.
      Made (record (computed at (node.PointerOperate at pointer.Add b.node p.node) p.type) { is_fixed = stays_fixed p b }) env))
  unfolding shut.moved_right unary.need_complete fit.to_kind
  moved_right_is = behind (unary.need_complete at t env) _ _ (λ env. same_fixed at (λ b. node.PointerOperate at pointer.Add b.node p.node) p (fit.to_kind k i env))

module _ (at : ℕ) (o : BinaryOp) (x : Value) (t : ℕ) (k : Kind) (y : Value) (env : Env) where
  pub moves : (p : PointerOperator) → binary.add_or_subtract o ≡ Some p → shut.pointer_and_integer at o x t k y env ≡ shut.moved at p x t k y env
  unfolding shut.pointer_and_integer shut.moved
  moves p e = ap (λ m. binary.pointer_and_integer at o m x t k y env) e

  pub moves_not : binary.add_or_subtract o ≡ None → shut.pointer_and_integer at o x t k y env ≡ shut.with_null at o x y env
  unfolding shut.pointer_and_integer shut.with_null
  moves_not e = ap (λ m. binary.pointer_and_integer at o m x t k y env) e

module _ (at : ℕ) (x : Value) (k : Kind) (y : Value) (t : ℕ) (env : Env) where
  pub adds : (o : BinaryOp) → o ≡ op.Add → shut.integer_and_pointer at o x k y t env ≡ shut.moved_right at k x y t env
  unfolding shut.integer_and_pointer shut.moved_right
  adds o is = ap (λ o. binary.integer_and_pointer at o x k y t env) is

  pub adds_not : (o : BinaryOp) → (o ≡ op.Add → ⊥) → shut.integer_and_pointer at o x k y t env ≡ shut.with_null at o x y env
  unfolding shut.integer_and_pointer shut.with_null
  adds_not op.Add n = absurd (n refl)
  adds_not other n = refl

pub ruleset moved_laws = (moved_is, unnumbered, grown_laws)

pub ruleset moved_right_laws = (moved_right_is, unnumbered, grown_laws)

pub ruleset pointer_and_integer_laws = (moves, moves_not)

pub ruleset integer_and_pointer_laws = (adds, adds_not)
