-- Operators on integers and enumerations (5.3, 5.6 to 5.15).
use Rattle.std.specs.Prelude.{ℕ, zero, Bool, true, false, ◌&&◌, ◌||◌, not, if◌then◌else◌, ℤ, pos, ◌-ℤ◌, Option, None, Some}
use Rattle.cf_base.specs.declared.kind.Kind.{Kind}
use Rattle.cf_base.specs.declared.kind.Kind.TheVariants as kind
use Rattle.cf_base.specs.declared.arith.Arith.{Arith}
use Rattle.cf_base.specs.Integers.{int_op, ranged, convert}
use Rattle.cf_base.specs.Promotion.{usual}
use Rattle.cf_types.specs.Operators.{is_shift}
use Rattle.cf_core.specs.Typing.{is_comparison}
use Rattle.cf_core.specs.declared.operators.UnaryOperator.TheVariants as unary
use Rattle.cf_core.specs.declared.node.Core.{Core as Node}
use Rattle.cf_core.specs.declared.node.Core.TheVariants as node
use Rattle.cf_elab.specs.Answer.{Elab, ◌>>=◌, gives}
use Rattle.cf_elab.specs.Made.{of_kind, int}
use Rattle.cf_elab.specs.Operand.{Value, known_number, computed}
use Rattle.cf_elab.specs.Fit.{to_kind, truth}

abbrev pub two_numbers : (ℤ → ℤ → Option ℤ) → Option ℤ → Option ℤ → Option ℤ
two_numbers f (Some a) (Some b) = f a b
two_numbers f a b = None

abbrev pub result_kind : Arith → Kind → Kind
result_kind op k = if is_comparison op then kind.Int else k

-- both operands are of the type; a shift count is of its own promoted type
abbrev pub operated : ℕ → Arith → Kind → Kind → Value → Value → Elab Value
operated at op k count x y = do
  a ← to_kind k x
  b ← to_kind count y
  t ← of_kind (result_kind op k)
  gives (record (computed at (node.Operate at op k a.node b.node) t) { number = two_numbers (λ z w. known_number (Some z) (int_op op k z w)) a.number b.number })

-- by the promoted types of the operands: a shift has that of its left operand (5.8), any other operator the usual conversions (4.5)
abbrev pub on_kinds : ℕ → Arith → Kind → Kind → Value → Value → Elab Value
on_kinds at op k l x y = if is_shift op then operated at op k l x y else operated at op (usual k l) (usual k l) x y

-- - and ~ at a promoted type (5.3)
abbrev pub negated : ℕ → Kind → Value → Elab Value
negated at k x = do
  a ← to_kind k x
  t ← of_kind k
  gives (record (computed at (node.Unary at unary.Negate k a.node) t) { number = minus a.number })
  where
    minus : Option ℤ → Option ℤ
    minus None = None
    minus (Some z) = known_number (Some z) (ranged k (pos 0 -ℤ z))

abbrev pub complemented : ℕ → Kind → Value → Elab Value
complemented at k x = do
  a ← to_kind k x
  t ← of_kind k
  gives (record (computed at (node.Unary at unary.Complement k a.node) t) { number = inverse a.number })
  where
    inverse : Option ℤ → Option ℤ
    inverse None = None
    inverse (Some z) = Some (convert k ((pos 0 -ℤ z) -ℤ pos 1))

abbrev pub is_nonzero : ℤ → Bool
is_nonzero (pos zero) = false
is_nonzero z = true

abbrev pub truth_number : Bool → ℤ
truth_number true = pos 1
truth_number false = pos 0

abbrev pub inverted : Option ℤ → Option ℤ
inverted None = None
inverted (Some z) = Some (truth_number (not (is_nonzero z)))

-- ! of a value of an arithmetic or pointer type, else K18
abbrev pub negation : ℕ → Value → Elab Value
negation at x = do
  a ← truth 18 at x
  t ← int
  gives (record (computed at (node.Not at a.node) t) { number = inverted a.number })

-- && and ||: a side that is no condition is K13 (5.14, 5.15)
abbrev pub logical : ℕ → (ℕ → Node → Node → Node) → (Bool → Bool → Bool) → Value → Value → Elab Value
logical at make join x y = do
  a ← truth 13 at x
  b ← truth 13 at y
  t ← int
  gives (record (computed at (make at a.node b.node) t) {
    number = two_numbers (λ z w. Some (truth_number (join (is_nonzero z) (is_nonzero w)))) a.number b.number;
  })

abbrev pub conjunction : ℕ → Value → Value → Elab Value
conjunction at x y = logical at (λ p a b. node.And p a b) (λ a b. a && b) x y

abbrev pub disjunction : ℕ → Value → Value → Elab Value
disjunction at x y = logical at (λ p a b. node.Or p a b) (λ a b. a || b) x y
