-- The integers' definitions tried on numbers worked out by hand.
use Rattle.std.proofs.Common.{◌≡◌, refl}
use Rattle.std.specs.Prelude.{pos, negsuc, Ok, Err, true, false}
use Rattle.cf_base.specs.declared.kind.Kind.TheVariants.{Char, UChar, Short, UShort, Int, UInt, ULong}
use Rattle.cf_base.specs.declared.arith.Arith.TheVariants as op
use Rattle.cf_base.specs.Integers.{fits, convert, int_op}

greatest_int : fits Int (pos 2147483647) ≡ true
greatest_int = refl

past_greatest_int : fits Int (pos 2147483648) ≡ false
past_greatest_int = refl

least_int : fits Int (negsuc 2147483647) ≡ true
least_int = refl

past_least_int : fits Int (negsuc 2147483648) ≡ false
past_least_int = refl

no_negative_unsigned : fits UShort (negsuc 0) ≡ false
no_negative_unsigned = refl

char_is_signed : convert Char (pos 255) ≡ negsuc 0
char_is_signed = refl

unsigned_char_wraps : convert UChar (negsuc 0) ≡ pos 255
unsigned_char_wraps = refl

least_of_short : convert Short (pos 32768) ≡ negsuc 32767
least_of_short = refl

minus_one_as_unsigned : convert UInt (negsuc 0) ≡ pos 4294967295
minus_one_as_unsigned = refl

sum_overflows : int_op op.Add Int (pos 2147483647) (pos 1) ≡ Err 1
sum_overflows = refl

unsigned_sum_wraps : int_op op.Add ULong (pos 4294967295) (pos 1) ≡ Ok (pos 0)
unsigned_sum_wraps = refl

unsigned_difference_wraps : int_op op.Subtract UInt (pos 0) (pos 1) ≡ Ok (pos 4294967295)
unsigned_difference_wraps = refl

product_overflows : int_op op.Multiply Int (pos 65536) (pos 32768) ≡ Err 1
product_overflows = refl

rounds_towards_zero : int_op op.Divide Int (negsuc 6) (pos 2) ≡ Ok (negsuc 2)
rounds_towards_zero = refl

quotient_overflows : int_op op.Divide Int (negsuc 2147483647) (negsuc 0) ≡ Err 1
quotient_overflows = refl

divides_by_zero : int_op op.Divide UInt (pos 7) (pos 0) ≡ Err 2
divides_by_zero = refl

remainder_of_least : int_op op.Remainder Int (negsuc 2147483647) (negsuc 0) ≡ Ok (pos 0)
remainder_of_least = refl

remainder_has_dividend_sign : int_op op.Remainder Int (negsuc 6) (pos 4) ≡ Ok (negsuc 2)
remainder_has_dividend_sign = refl

left_shift_works_on_bits : int_op op.ShiftLeft Int (pos 1) (pos 31) ≡ Ok (negsuc 2147483647)
left_shift_works_on_bits = refl

left_shift_drops_bits : int_op op.ShiftLeft Int (pos 3) (pos 31) ≡ Ok (negsuc 2147483647)
left_shift_drops_bits = refl

shift_count_at_width : int_op op.ShiftLeft Int (pos 1) (pos 32) ≡ Err 3
shift_count_at_width = refl

negative_shift_count : int_op op.ShiftRight ULong (pos 1) (negsuc 0) ≡ Err 3
negative_shift_count = refl

right_shift_is_arithmetic : int_op op.ShiftRight Int (negsuc 4) (pos 1) ≡ Ok (negsuc 2)
right_shift_is_arithmetic = refl

less_is_an_int : int_op op.Less Int (negsuc 0) (pos 0) ≡ Ok (pos 1)
less_is_an_int = refl

equal : int_op op.Equal Int (negsuc 3) (negsuc 3) ≡ Ok (pos 1)
equal = refl

not_equal : int_op op.NotEqual Int (pos 3) (negsuc 3) ≡ Ok (pos 1)
not_equal = refl

and_of_negative : int_op op.And Int (negsuc 0) (pos 12) ≡ Ok (pos 12)
and_of_negative = refl

xor_with_minus_one : int_op op.Xor Int (pos 5) (negsuc 0) ≡ Ok (negsuc 5)
xor_with_minus_one = refl
