-- A converted number is a value of its type.
use Rattle.std.proofs.Common.{◌≡◌, ℕ, suc, ◌-◌, ◌<◌, ◌^◌, nat_lt, Bool, true, false, ◌||◌, subst, if◌then◌else◌, ℤ, pos, negsuc, IsTrue, refl, sym, arith}
use Rattle.std.proofs.lemmas.Bool.Decides.{nat_tests}
use Rattle.std.proofs.lemmas.Nat.{mod_below, pow_pos}
use Rattle.cf_base.specs.declared.kind.Kind.{Kind}
use Rattle.cf_base.specs.declared.kind.Kind.TheVariants.{Char, SChar, UChar, Short, UShort, Int, UInt, Long, ULong}
use Rattle.cf_base.specs.Integers.{fits, fits_bits, bits_of, convert}
use Rattle.cf_base.specs.declared.arith.Arith.{Arith}
use Rattle.cf_types.specs.Operators.{TakesOperands, is_shift}

bits-below : (w : ℕ) (z : ℤ) → bits_of w z < 2 ^ w
bits-below w (pos n) = mod_below n (2 ^ w) (pow_pos w)
bits-below w (negsuc n) = let some = pow_pos w in omega (arith, some)

signed_8 : (n : ℕ) → n < 256 → (t : Bool) → nat_lt n 128 ≡ t → fits_bits true 8 (if t then pos n else negsuc (256 - suc n)) ≡ true
signed_8 n lt true e = e
signed_8 n lt false e = grind (arith, nat_tests, lt, e)

signed_16 : (n : ℕ) → n < 65536 → (t : Bool) → nat_lt n 32768 ≡ t → fits_bits true 16 (if t then pos n else negsuc (65536 - suc n)) ≡ true
signed_16 n lt true e = e
signed_16 n lt false e = grind (arith, nat_tests, lt, e)

signed_32 : (n : ℕ) → n < 4294967296 → (t : Bool) → nat_lt n 2147483648 ≡ t → fits_bits true 32 (if t then pos n else negsuc (4294967296 - suc n)) ≡ true
signed_32 n lt true e = e
signed_32 n lt false e = grind (arith, nat_tests, lt, e)

lower : (n m : ℕ) → n < m → nat_lt n m ≡ true
lower n m lt = grind (arith, nat_tests, lt)

pub convert-fits : (k : Kind) (z : ℤ) → IsTrue (fits k (convert k z))
convert-fits Char z = signed_8 (bits_of 8 z) (bits-below 8 z) (nat_lt (bits_of 8 z) 128) refl
convert-fits SChar z = signed_8 (bits_of 8 z) (bits-below 8 z) (nat_lt (bits_of 8 z) 128) refl
convert-fits UChar z = lower (bits_of 8 z) 256 (bits-below 8 z)
convert-fits Short z = signed_16 (bits_of 16 z) (bits-below 16 z) (nat_lt (bits_of 16 z) 32768) refl
convert-fits UShort z = lower (bits_of 16 z) 65536 (bits-below 16 z)
convert-fits Int z = signed_32 (bits_of 32 z) (bits-below 32 z) (nat_lt (bits_of 32 z) 2147483648) refl
convert-fits UInt z = lower (bits_of 32 z) 4294967296 (bits-below 32 z)
convert-fits Long z = signed_32 (bits_of 32 z) (bits-below 32 z) (nat_lt (bits_of 32 z) 2147483648) refl
convert-fits ULong z = lower (bits_of 32 z) 4294967296 (bits-below 32 z)

or-right : (a b : Bool) → b ≡ true → (a || b) ≡ true
or-right true b e = refl
or-right false b e = e

-- converted operands are taken by any operator
pub converted-taken : (o : Arith) (k : Kind) (a b x y : ℤ) → x ≡ convert k a → y ≡ convert k b → TakesOperands o k x y
converted-taken o k a b x y e f = record {
  left = subst (λ z. IsTrue (fits k z)) (sym e) (convert-fits k a);
  right = or-right (is_shift o) (fits k y) (subst (λ z. IsTrue (fits k z)) (sym f) (convert-fits k b));
}

pub convert-zero : (k : Kind) → convert k (pos 0) ≡ pos 0
convert-zero Char = refl
convert-zero SChar = refl
convert-zero UChar = refl
convert-zero Short = refl
convert-zero UShort = refl
convert-zero Int = refl
convert-zero UInt = refl
convert-zero Long = refl
convert-zero ULong = refl
