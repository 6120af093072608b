-- What an operator asks of its operands.
use Rattle.std.specs.Prelude.{Bool, true, false, ◌||◌, IsTrue, ℤ}
use Rattle.cf_base.specs.declared.kind.Kind.{Kind}
use Rattle.cf_base.specs.declared.arith.Arith.{Arith}
use Rattle.cf_base.specs.declared.arith.Arith.TheVariants as op
use Rattle.cf_base.specs.Integers.{fits}

-- whether the right operand is a count, of any type (5.8)
abbrev pub is_shift : Arith → Bool
is_shift op.ShiftLeft = true
is_shift op.ShiftRight = true
is_shift other = false

-- both operands are values of the type, but for a shift count
pub record TakesOperands (op : Arith) (kind : Kind) (a b : ℤ) : Type 0 where
  pub left : IsTrue (fits kind a)
  pub right : IsTrue (is_shift op || fits kind b)
