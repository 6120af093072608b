use Rattle.std.proofs.Common.{arith}
use Rattle.cf_tokens.proofs.Numbers.{too_large}
use Rattle.cf_tokens.proofs.number.number_within.Goals as goal

pub returns-then-value-from-clause-number : goal.returns-then-value-from-clause-number
returns-then-value-from-clause-number c =
    too_large c.args.most c.args.radix c.loop-digit.value c.loop-digit.digit-index c.args.digits.now c.requires.some (omega arith)
    c.loop-digit.invariant.0
    (rw (c.from.ensures, c.from-in-loop-digit.ensures, c.digit_value.ensures.value, c.from-in-loop-digit-2.ensures) at c.if-value-from.true)
