-- What each row is, step by step, by the names of its steps.
use Rattle.std.proofs.Common.{◌≡◌, ℕ, Bool, true, false, ℤ, Option, refl, if◌then◌else◌}
use Rattle.cf_base.specs.declared.kind.Kind.{Kind}
use Rattle.cf_base.specs.declared.kind.Kind.TheVariants as kind
use Rattle.cf_base.specs.declared.arith.Arith.{Arith}
use Rattle.cf_base.specs.Promotion.{usual}
use Rattle.cf_types.specs.Operators.{is_shift}
use Rattle.cf_core.specs.declared.operators.UnaryOperator.TheVariants as unary
use Rattle.cf_core.specs.declared.node.Core.{Core as Node}
use Rattle.cf_core.specs.declared.node.Core.TheVariants as node
use Rattle.cf_elab.specs.Env.{Env}
use Rattle.cf_elab.specs.Answer.{Answer, Made, onward}
use Rattle.cf_elab.specs.Operand.{Value, computed}
use Rattle.cf_elab.specs.Arithmetic as arithmetic
use Rattle.cf_elab.specs.Choice.{operand_kind, operator_kind}
use Rattle.cf_elab_env.specs.Shut as made
use Rattle.cf_elab_env.proofs.Growth.{grown_laws}
use Rattle.cf_elab_fit.specs.Shut as fit
use Rattle.cf_elab_fit.specs.NumbersNumbers as numbers
use Rattle.cf_elab_arith.specs.Arith.Shut as shut
use Rattle.cf_elab_arith.proofs.ArithLaws.Known.{integer_known, right_taken}

pub integer_is : (at : ℕ) (n : Node) (k : Kind) (number : Option ℤ) (env : Env)
    → shut.integer at n k number env ≡ onward (made.of_kind k env) (λ t env. Made (record (computed at n t) { number = number }) env)
unfolding shut.integer made.of_kind
integer_is at n k number env = refl

-- an operator that is done at one type, or at two where it shifts
abbrev operated_at : ℕ → Arith → Kind → Kind → Value → Value → Env → Answer Value
operated_at at op k count x y env =
    onward (fit.to_kind k x env) (λ a env. onward (fit.to_kind count y env) (λ b env.
    shut.integer at (node.Operate at op k a.node b.node) (arithmetic.result_kind op k) (numbers.operated op k a.number b.number) env))

operated_is : (at : ℕ) (op : Arith) (k count : Kind) (x y : Value) (env : Env) → arithmetic.operated at op k count x y env ≡ operated_at at op k count x y env
unfolding shut.integer fit.to_kind
operated_is at op k count x y env = refl

by_shift : (b : Bool) (at : ℕ) (op : Arith) (l r u : Kind) (x y : Value) (env : Env)
    → (if b then arithmetic.operated at op l r x y else arithmetic.operated at op u u x y) env ≡ operated_at at op (if b then l else u) (if b then r else u) x y env
by_shift true at op l r u x y env = operated_is at op l r x y env
by_shift false at op l r u x y env = operated_is at op u u x y env

pub on_kinds_is : (at : ℕ) (op : Arith) (l r : Kind) (x y : Value) (env : Env)
    → shut.on_kinds at op l r x y env ≡ operated_at at op (operator_kind op l r) (operand_kind op l r) x y env
unfolding shut.on_kinds
on_kinds_is at op l r x y env = by_shift (is_shift op) at op l r (usual l r) x y env

pub negated_is : (at : ℕ) (k : Kind) (x : Value) (env : Env)
    → shut.negated at k x env ≡ onward (fit.to_kind k x env) (λ a env. shut.integer at (node.Unary at unary.Negate k a.node) k (numbers.negative k a.number) env)
unfolding shut.negated shut.integer fit.to_kind
negated_is at k x env = refl

pub complemented_is : (at : ℕ) (k : Kind) (x : Value) (env : Env)
    → shut.complemented at k x env ≡ onward (fit.to_kind k x env) (λ a env. shut.integer at (node.Unary at unary.Complement k a.node) k (numbers.complement k a.number) env)
unfolding shut.complemented shut.integer fit.to_kind
complemented_is at k x env = refl

pub negation_is : (at : ℕ) (x : Value) (env : Env)
    → shut.negation at x env ≡ onward (fit.truth 18 at x env) (λ a env. shut.integer at (node.Not at a.node) kind.Int (arithmetic.inverted a.number) env)
unfolding shut.negation shut.integer fit.truth
negation_is at x env = refl

pub conjunction_is : (at : ℕ) (x y : Value) (env : Env)
    → shut.conjunction at x y env ≡ onward (fit.truth 13 at x env) (λ a env. onward (fit.truth 13 at y env) (λ b env.
    shut.integer at (node.And at a.node b.node) kind.Int (numbers.both_true a.number b.number) env))
unfolding shut.conjunction shut.integer fit.truth
conjunction_is at x y env = refl

pub disjunction_is : (at : ℕ) (x y : Value) (env : Env)
    → shut.disjunction at x y env ≡ onward (fit.truth 13 at x env) (λ a env. onward (fit.truth 13 at y env) (λ b env.
    shut.integer at (node.Or at a.node b.node) kind.Int (numbers.one_true a.number b.number) env))
unfolding shut.disjunction shut.integer fit.truth
disjunction_is at x y env = refl

pub ruleset integer_laws = (integer_is, integer_known)

pub ruleset on_kinds_laws = (on_kinds_is, right_taken, grown_laws)

pub ruleset negated_laws = (negated_is, grown_laws)

pub ruleset complemented_laws = (complemented_is, grown_laws)

pub ruleset negation_laws = (negation_is, grown_laws)

pub ruleset conjunction_laws = (conjunction_is, grown_laws)

pub ruleset disjunction_laws = (disjunction_is, grown_laws)
