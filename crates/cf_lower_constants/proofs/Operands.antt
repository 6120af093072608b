-- Operands that a type takes.
use Rattle.std.proofs.Common.{◌≡◌, Bool, true, false, ◌||◌, IsTrue, refl, sym, ◌∙◌}
use Rattle.std.specs.Prelude.{ℤ}
use Rattle.cf_base.specs.declared.arith.Arith.{Arith}
use Rattle.cf_base.specs.declared.kind.Kind.{Kind}
use Rattle.cf_base.specs.Integers.{fits}
use Rattle.cf_types.specs.Operators.{TakesOperands, is_shift}

one_so : (a b : Bool) → a ≡ true → IsTrue (a || b)
one_so true b e = refl
one_so false b e = cc

other_so : (a b : Bool) → IsTrue b → IsTrue (a || b)
other_so true b e = refl
other_so false b e = e

module _ (op : Arith) (k : Kind) (a b : ℤ) (left : IsTrue (fits k a)) where
  pub shift_takes : (s : Bool) → s ≡ is_shift op → s ≡ true → TakesOperands op k a b
  shift_takes s e is = record { left = left; right = one_so (is_shift op) (fits k b) (sym e ∙ is) }

  pub both_taken : IsTrue (fits k b) → TakesOperands op k a b
  both_taken right = record { left = left; right = other_so (is_shift op) (fits k b) right }
