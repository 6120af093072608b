-- Numbers of constant expressions, where they are known (5.19).
use Rattle.std.specs.Prelude.{Bool, true, false, ◌&&◌, ◌||◌, IsTrue, ℤ, pos, ◌-ℤ◌, Option, None, Some}
use Rattle.cf_base.specs.declared.kind.Kind.{Kind}
use Rattle.cf_base.specs.declared.arith.Arith.{Arith}
use Rattle.cf_base.specs.Integers.{fits, int_op, ranged, convert}
use Rattle.cf_types.specs.Operators.{is_shift}
use Rattle.cf_elab.specs.Operand.{known_number}
use Rattle.cf_elab.specs.Arithmetic.{two_numbers, is_nonzero, truth_number}

-- a number that is known is one of the type
abbrev pub NumberOf : Kind → Option ℤ → Type 0
NumberOf k None = Unit {0}
NumberOf k (Some z) = IsTrue (fits k z)

-- a right operand that is known is one of the operator's type, or a count
abbrev pub TakesRight : Arith → Kind → Option ℤ → Type 0
TakesRight op k None = Unit {0}
TakesRight op k (Some z) = IsTrue (is_shift op || fits k z)

-- what an operator gives at two numbers
abbrev pub operated : Arith → Kind → Option ℤ → Option ℤ → Option ℤ
operated op k a b = two_numbers (λ z w. known_number (Some z) (int_op op k z w)) a b

-- - and ~ (5.3)
abbrev pub negative : Kind → Option ℤ → Option ℤ
negative k None = None
negative k (Some z) = known_number (Some z) (ranged k (pos 0 -ℤ z))

abbrev pub complement : Kind → Option ℤ → Option ℤ
complement k None = None
complement k (Some z) = Some (convert k ((pos 0 -ℤ z) -ℤ pos 1))

-- && and || (5.14, 5.15)
abbrev pub both_true : Option ℤ → Option ℤ → Option ℤ
both_true a b = two_numbers (λ z w. Some (truth_number (is_nonzero z && is_nonzero w))) a b

abbrev pub one_true : Option ℤ → Option ℤ → Option ℤ
one_true a b = two_numbers (λ z w. Some (truth_number (is_nonzero z || is_nonzero w))) a b
