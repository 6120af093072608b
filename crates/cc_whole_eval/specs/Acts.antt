-- Which act an operator is at operands where it gives no value.
use Rattle.std.specs.Prelude.{ℕ, zero, ℤ, pos}
use Rattle.cf_base.specs.declared.arith.Arith.{Arith}
use Rattle.cf_base.specs.declared.arith.Arith.TheVariants as op
use Rattle.cf_base.specs.Integers.{overflow, zero_divisor, shift_count}

abbrev pub divided : ℤ → ℕ
divided (pos zero) = zero_divisor
divided z = overflow

abbrev pub act_of : Arith → ℤ → ℕ
act_of op.Divide z = divided z
act_of op.Remainder z = divided z
act_of op.ShiftLeft z = shift_count
act_of op.ShiftRight z = shift_count
act_of op z = overflow
