-- Operators on two pointers to objects, step by step.
use Rattle.std.proofs.Common.{◌≡◌, ℕ, Bool, true, false, Option, None, Some, refl, ap, ◌∙◌}
use Rattle.cf_core.specs.declared.node.Core.TheVariants as node
use Rattle.cf_core.specs.declared.operators.PointerOperator.{PointerOperator}
use Rattle.cf_syntax.specs.declared.operator.BinaryOp.{BinaryOp}
use Rattle.cf_elab.specs.Answer.{Answer, Made, Refused, onward, need}
use Rattle.cf_elab.specs.Binary as binary
use Rattle.cf_elab.specs.Env.{Env}
use Rattle.cf_elab.specs.Operand.{Value, computed}
use Rattle.cf_elab_env.specs.Shut as made
use Rattle.cf_elab_env.proofs.Growth.{grown_laws}
use Rattle.cf_elab_arith.specs.Arith.Sorts.{complete_at}
use Rattle.cf_elab_arith.proofs.UnaryLaws.PointerLaws.{unnumbered}
use Rattle.cf_elab_operators.specs.Binary.Asked.{are_complete}
use Rattle.cf_elab_operators.specs.Binary.Shut as shut

pub of_pointers_is : (at : ℕ) (op : PointerOperator) (x y : Value) (env : Env)
    → shut.of_pointers at op x y env ≡ onward (made.int env) (λ t env. Made (computed at (node.PointerOperate at op x.node y.node) t) env)
unfolding shut.of_pointers made.int
of_pointers_is at op x y env = refl

module _ (at : ℕ) (op : PointerOperator) (x y : Value) (t u : ℕ) (env : Env) where
  abbrev ordered_if : Bool → Answer Value
  ordered_if b = onward (binary.alike_pointers at x y t u env) (λ ab env. onward (need b 30 at env) (λ _. binary.of_pointers at op ab))

  pub ordered_complete : are_complete env t u ≡ true
      → shut.ordered at op x y t u env ≡ onward (shut.alike_pointers at x y t u env) (λ ab env. shut.of_pointers at op ab.0 ab.1 env)
  unfolding shut.ordered shut.alike_pointers shut.of_pointers
  ordered_complete h = ap ordered_if h

  pub ordered_incomplete : are_complete env t u ≡ false → shut.ordered at op x y t u env ≡ onward (shut.alike_pointers at x y t u env) (λ ab env. Refused 30 at)
  unfolding shut.ordered shut.alike_pointers
  ordered_incomplete h = ap ordered_if h

  pub equated_is : shut.equated at op x y t u env ≡ onward (shut.alike_pointers at x y t u env) (λ ab env. shut.of_pointers at op ab.0 ab.1 env)
  unfolding shut.equated shut.alike_pointers shut.of_pointers
  equated_is = refl

module _ (at : ℕ) (op : BinaryOp) (x y : Value) (t u : ℕ) (env : Env) where
  abbrev by : Option PointerOperator → Option PointerOperator → Answer Value
  by order test = binary.same_objects at x y t u order test env

  pub by_order : (o : PointerOperator) → binary.ordering op ≡ Some o → shut.same_objects at op x y t u env ≡ shut.ordered at o x y t u env
  unfolding shut.same_objects shut.ordered are_complete complete_at
  by_order o e = ap (λ order. by order (binary.equality op)) e

  pub by_equality : (o : PointerOperator) → binary.ordering op ≡ None → binary.equality op ≡ Some o → shut.same_objects at op x y t u env ≡ shut.equated at o x y t u env
  unfolding shut.same_objects shut.equated
  by_equality o n e = ap (λ order. by order (binary.equality op)) n ∙ ap (by None) e

  pub by_neither : binary.ordering op ≡ None → binary.equality op ≡ None → shut.same_objects at op x y t u env ≡ Refused 18 at
  unfolding shut.same_objects
  by_neither n e = ap (λ order. by order (binary.equality op)) n ∙ ap (by None) e

pub ruleset of_pointers_laws = (of_pointers_is, unnumbered)

pub ruleset ordered_laws = (ordered_complete, ordered_incomplete, grown_laws)

pub ruleset equated_laws = (equated_is, grown_laws)

pub ruleset same_objects_laws = (by_order, by_equality, by_neither)
