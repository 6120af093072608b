-- The integers of the language, which the meaning of the source and the meaning of the small C share (3.6.1, 4.1 to 4.5, 5.6 to 5.13).
use Rattle.std.specs.Prelude.{ℕ, zero, suc, ◌-◌, ◌*◌, ◌/◌, ◌%◌, ◌^◌, Bool, true, false, if◌then◌else◌, nat_lt, ◌&&◌, ◌||◌, Result, Ok, Err, ℤ, pos, negsuc, ◌+ℤ◌, ◌-ℤ◌, ◌*ℤ◌, int_lt, int_le, int_div, int_rem, bit_and, bit_or, bit_xor}
use Rattle.cf_base.specs.declared.kind.Kind.{Kind}
use Rattle.cf_base.specs.declared.kind.Kind.TheVariants.{Char, SChar, UChar, Short, UShort, Int, UInt, Long, ULong}
use Rattle.cf_base.specs.declared.arith.Arith.{Arith}
use Rattle.cf_base.specs.declared.arith.Arith.TheVariants as op

-- how many bits a value has (3.6.1)
abbrev pub width : Kind → ℕ
width Char = 8
width SChar = 8
width UChar = 8
width Short = 16
width UShort = 16
width Int = 32
width UInt = 32
width Long = 32
width ULong = 32

-- whether there are negative values; `char` is signed here (3.6.1)
abbrev pub is_signed : Kind → Bool
is_signed Char = true
is_signed SChar = true
is_signed UChar = false
is_signed Short = true
is_signed UShort = false
is_signed Int = true
is_signed UInt = false
is_signed Long = true
is_signed ULong = false

-- whether z is a value of w bits: from - 2 ^ (w - 1) to 2 ^ (w - 1) - 1 where signed, from 0 to 2 ^ w - 1 where not
abbrev pub fits_bits : Bool → ℕ → ℤ → Bool
fits_bits true w (pos n) = nat_lt n (2 ^ (w - 1))
fits_bits true w (negsuc n) = nat_lt n (2 ^ (w - 1))
fits_bits false w (pos n) = nat_lt n (2 ^ w)
fits_bits false w (negsuc n) = false

-- whether z is a value of the type
abbrev pub fits : Kind → ℤ → Bool
fits k z = fits_bits (is_signed k) (width k) z

-- the w lowest bits of z in two's complement, as a number below 2 ^ w
abbrev pub bits_of : ℕ → ℤ → ℕ
bits_of w (pos n) = n % 2 ^ w
bits_of w (negsuc n) = 2 ^ w - suc (n % 2 ^ w)

-- the value that has these w bits
abbrev pub value_of_bits : Bool → ℕ → ℕ → ℤ
value_of_bits false w n = pos n
value_of_bits true w n = if nat_lt n (2 ^ (w - 1)) then pos n else negsuc (2 ^ w - suc n)

-- conversion to an integer type is modulo 2 ^ width (4.3)
abbrev pub convert : Kind → ℤ → ℤ
convert k z = value_of_bits (is_signed k) (width k) (bits_of (width k) z)

-- The acts that no meaning is given to, by the number that source and C share.
-- a signed result out of range
abbrev pub overflow : ℕ
overflow = 1

-- a zero divisor
abbrev pub zero_divisor : ℕ
zero_divisor = 2

-- a shift count that is negative or at least the width
abbrev pub shift_count : ℕ
shift_count = 3

-- an exact result as a value of the type: out of range is an act where the type is signed, and modulo 2 ^ width where not (5)
abbrev pub ranged : Kind → ℤ → Result ℤ ℕ
ranged k z = if fits k z then Ok z else (if is_signed k then Err overflow else Ok (convert k z))

-- a comparison is an int, 1 or 0 (5.9, 5.10)
abbrev pub truth : Bool → Result ℤ ℕ
truth true = Ok (pos 1)
truth false = Ok (pos 0)

-- the value that has these bits of two values (5.11 to 5.13)
abbrev pub bitwise : (ℕ → ℕ → ℕ) → Kind → ℤ → ℤ → Result ℤ ℕ
bitwise f k a b = Ok (value_of_bits (is_signed k) (width k) (f (bits_of (width k) a) (bits_of (width k) b)))

-- a shift by a count from 0 to width - 1 (5.8)
abbrev pub shifted : (ℕ → ℤ) → ℕ → ℤ → Result ℤ ℕ
shifted f w (pos n) = if nat_lt n w then Ok (f n) else Err shift_count
shifted f w (negsuc n) = Err shift_count

-- a left shift works on bits
abbrev pub left_by : Kind → ℤ → ℕ → ℤ
left_by k a n = value_of_bits (is_signed k) (width k) (bits_of (width k) a * 2 ^ n % 2 ^ width k)

-- a right shift divides and rounds down, for negative values too
abbrev pub right_by : ℤ → ℕ → ℤ
right_by (pos a) n = pos (a / 2 ^ n)
right_by (negsuc a) n = negsuc (a / 2 ^ n)

-- division rounds towards zero (5.6)
abbrev pub quotient : Kind → ℤ → ℤ → Result ℤ ℕ
quotient k a (pos zero) = Err zero_divisor
quotient k a b = ranged k (int_div a b)

-- the remainder has the sign of the dividend (5.6)
abbrev pub remainder : ℤ → ℤ → Result ℤ ℕ
remainder a (pos zero) = Err zero_divisor
remainder a b = Ok (int_rem a b)

-- What the operator gives at two values of a promoted type: a value of that type, an int where it compares, or the act that it is.
-- The right operand of a shift is the count, of any type.
abbrev pub int_op : Arith → Kind → ℤ → ℤ → Result ℤ ℕ
int_op op.Multiply k a b = ranged k (a *ℤ b)
int_op op.Divide k a b = quotient k a b
int_op op.Remainder k a b = remainder a b
int_op op.Add k a b = ranged k (a +ℤ b)
int_op op.Subtract k a b = ranged k (a -ℤ b)
int_op op.ShiftLeft k a b = shifted (left_by k a) (width k) b
int_op op.ShiftRight k a b = shifted (right_by a) (width k) b
int_op op.Less k a b = truth (int_lt a b)
int_op op.Greater k a b = truth (int_lt b a)
int_op op.LessEqual k a b = truth (int_le a b)
int_op op.GreaterEqual k a b = truth (int_le b a)
int_op op.Equal k a b = truth (int_le a b && int_le b a)
int_op op.NotEqual k a b = truth (int_lt a b || int_lt b a)
int_op op.And k a b = bitwise bit_and k a b
int_op op.Xor k a b = bitwise bit_xor k a b
int_op op.Or k a b = bitwise bit_or k a b
