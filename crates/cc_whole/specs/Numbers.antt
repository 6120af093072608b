-- Integer constants: their values and types, and what they serve as.
use Rattle.std.specs.Prelude.{ℕ, zero, suc, ◌+◌, ◌^◌, nat_lt, Bool, true, false, ◌&&◌, ℤ, pos, negsuc}
use Rattle.cf_base.specs.declared.kind.Kind.TheVariants.{Int, UInt}
use Rattle.cf_base.specs.Integers.{fits, bits_of}
use Rattle.cc_whole.specs.declared.types.CType.{CType}
use Rattle.cc_whole.specs.declared.types.CType.TheVariants as ty
use Rattle.cc_whole.specs.declared.types.CConstant.{CConstant}
use Rattle.cc_whole.specs.declared.types.CConstant.TheVariants as int

abbrev pub value_of : CConstant → ℤ
value_of (int.Signed z) = z
value_of (int.Unsigned n) = pos n

abbrev pub constant_type : CConstant → CType
constant_type (int.Signed z) = ty.Int
constant_type (int.Unsigned n) = ty.UInt

-- it fits 32 bits
abbrev pub fits_constant : CConstant → Bool
fits_constant (int.Signed z) = fits Int z
fits_constant (int.Unsigned n) = fits UInt (pos n)

abbrev pub is_zero_value : ℤ → Bool
is_zero_value (pos zero) = true
is_zero_value (pos (suc n)) = false
is_zero_value (negsuc n) = false

-- labels of a `switch` are the same where they are equal modulo 2 ^ 32
abbrev pub label_of : CConstant → ℕ
label_of c = bits_of 32 (value_of c)

abbrev pub count_in : ℤ → ℕ
count_in (pos n) = n
count_in (negsuc n) = 0

-- the number of elements of an array
abbrev pub size_of : CConstant → ℕ
size_of c = count_in (value_of c)

-- an array has from 1 to 2 ^ 22 elements
abbrev pub is_size : CConstant → Bool
is_size c = nat_lt 0 (size_of c) && nat_lt (size_of c) (2 ^ 22 + 1)
