-- Values of a kind whose values are all of another.
use Rattle.std.proofs.Common.{◌≡◌, ℕ, ◌≤◌, nat_lt, true, refl, arith}
use Rattle.std.specs.Prelude.{ℤ, pos, negsuc}
use Rattle.std.proofs.lemmas.Bool.Decides.{nat_tests}
use Rattle.cf_base.specs.declared.kind.Kind.{Kind}
use Rattle.cf_base.specs.declared.kind.Kind.TheVariants.{Char, SChar, UChar, Short, UShort, Int, UInt, Long, ULong}
use Rattle.cf_base.specs.Integers.{fits}
use Rattle.cf_lower.specs.Kept.{within}

wider : (n m k : ℕ) → m ≤ k → nat_lt n m ≡ true → nat_lt n k ≡ true
wider n m k le h = grind (arith, nat_tests, le, h)

pub within-fits : (j k : Kind) (z : ℤ) → within j k ≡ true → fits j z ≡ true → fits k z ≡ true
within-fits Char Char (pos n) e h = wider n 128 128 (omega arith) h
within-fits Char Char (negsuc n) e h = wider n 128 128 (omega arith) h
within-fits Char SChar (pos n) e h = wider n 128 128 (omega arith) h
within-fits Char SChar (negsuc n) e h = wider n 128 128 (omega arith) h
within-fits Char UChar z e h = absurd (cc)
within-fits Char Short (pos n) e h = wider n 128 32768 (omega arith) h
within-fits Char Short (negsuc n) e h = wider n 128 32768 (omega arith) h
within-fits Char UShort z e h = absurd (cc)
within-fits Char Int (pos n) e h = wider n 128 2147483648 (omega arith) h
within-fits Char Int (negsuc n) e h = wider n 128 2147483648 (omega arith) h
within-fits Char UInt z e h = absurd (cc)
within-fits Char Long (pos n) e h = wider n 128 2147483648 (omega arith) h
within-fits Char Long (negsuc n) e h = wider n 128 2147483648 (omega arith) h
within-fits Char ULong z e h = absurd (cc)
within-fits SChar Char (pos n) e h = wider n 128 128 (omega arith) h
within-fits SChar Char (negsuc n) e h = wider n 128 128 (omega arith) h
within-fits SChar SChar (pos n) e h = wider n 128 128 (omega arith) h
within-fits SChar SChar (negsuc n) e h = wider n 128 128 (omega arith) h
within-fits SChar UChar z e h = absurd (cc)
within-fits SChar Short (pos n) e h = wider n 128 32768 (omega arith) h
within-fits SChar Short (negsuc n) e h = wider n 128 32768 (omega arith) h
within-fits SChar UShort z e h = absurd (cc)
within-fits SChar Int (pos n) e h = wider n 128 2147483648 (omega arith) h
within-fits SChar Int (negsuc n) e h = wider n 128 2147483648 (omega arith) h
within-fits SChar UInt z e h = absurd (cc)
within-fits SChar Long (pos n) e h = wider n 128 2147483648 (omega arith) h
within-fits SChar Long (negsuc n) e h = wider n 128 2147483648 (omega arith) h
within-fits SChar ULong z e h = absurd (cc)
within-fits UChar Char z e h = absurd (cc)
within-fits UChar SChar z e h = absurd (cc)
within-fits UChar UChar (pos n) e h = wider n 256 256 (omega arith) h
within-fits UChar UChar (negsuc n) e h = absurd (cc)
within-fits UChar Short (pos n) e h = wider n 256 32768 (omega arith) h
within-fits UChar Short (negsuc n) e h = absurd (cc)
within-fits UChar UShort (pos n) e h = wider n 256 65536 (omega arith) h
within-fits UChar UShort (negsuc n) e h = absurd (cc)
within-fits UChar Int (pos n) e h = wider n 256 2147483648 (omega arith) h
within-fits UChar Int (negsuc n) e h = absurd (cc)
within-fits UChar UInt (pos n) e h = wider n 256 4294967296 (omega arith) h
within-fits UChar UInt (negsuc n) e h = absurd (cc)
within-fits UChar Long (pos n) e h = wider n 256 2147483648 (omega arith) h
within-fits UChar Long (negsuc n) e h = absurd (cc)
within-fits UChar ULong (pos n) e h = wider n 256 4294967296 (omega arith) h
within-fits UChar ULong (negsuc n) e h = absurd (cc)
within-fits Short Char z e h = absurd (cc)
within-fits Short SChar z e h = absurd (cc)
within-fits Short UChar z e h = absurd (cc)
within-fits Short Short (pos n) e h = wider n 32768 32768 (omega arith) h
within-fits Short Short (negsuc n) e h = wider n 32768 32768 (omega arith) h
within-fits Short UShort z e h = absurd (cc)
within-fits Short Int (pos n) e h = wider n 32768 2147483648 (omega arith) h
within-fits Short Int (negsuc n) e h = wider n 32768 2147483648 (omega arith) h
within-fits Short UInt z e h = absurd (cc)
within-fits Short Long (pos n) e h = wider n 32768 2147483648 (omega arith) h
within-fits Short Long (negsuc n) e h = wider n 32768 2147483648 (omega arith) h
within-fits Short ULong z e h = absurd (cc)
within-fits UShort Char z e h = absurd (cc)
within-fits UShort SChar z e h = absurd (cc)
within-fits UShort UChar z e h = absurd (cc)
within-fits UShort Short z e h = absurd (cc)
within-fits UShort UShort (pos n) e h = wider n 65536 65536 (omega arith) h
within-fits UShort UShort (negsuc n) e h = absurd (cc)
within-fits UShort Int (pos n) e h = wider n 65536 2147483648 (omega arith) h
within-fits UShort Int (negsuc n) e h = absurd (cc)
within-fits UShort UInt (pos n) e h = wider n 65536 4294967296 (omega arith) h
within-fits UShort UInt (negsuc n) e h = absurd (cc)
within-fits UShort Long (pos n) e h = wider n 65536 2147483648 (omega arith) h
within-fits UShort Long (negsuc n) e h = absurd (cc)
within-fits UShort ULong (pos n) e h = wider n 65536 4294967296 (omega arith) h
within-fits UShort ULong (negsuc n) e h = absurd (cc)
within-fits Int Char z e h = absurd (cc)
within-fits Int SChar z e h = absurd (cc)
within-fits Int UChar z e h = absurd (cc)
within-fits Int Short z e h = absurd (cc)
within-fits Int UShort z e h = absurd (cc)
within-fits Int Int (pos n) e h = wider n 2147483648 2147483648 (omega arith) h
within-fits Int Int (negsuc n) e h = wider n 2147483648 2147483648 (omega arith) h
within-fits Int UInt z e h = absurd (cc)
within-fits Int Long (pos n) e h = wider n 2147483648 2147483648 (omega arith) h
within-fits Int Long (negsuc n) e h = wider n 2147483648 2147483648 (omega arith) h
within-fits Int ULong z e h = absurd (cc)
within-fits UInt Char z e h = absurd (cc)
within-fits UInt SChar z e h = absurd (cc)
within-fits UInt UChar z e h = absurd (cc)
within-fits UInt Short z e h = absurd (cc)
within-fits UInt UShort z e h = absurd (cc)
within-fits UInt Int z e h = absurd (cc)
within-fits UInt UInt (pos n) e h = wider n 4294967296 4294967296 (omega arith) h
within-fits UInt UInt (negsuc n) e h = absurd (cc)
within-fits UInt Long z e h = absurd (cc)
within-fits UInt ULong (pos n) e h = wider n 4294967296 4294967296 (omega arith) h
within-fits UInt ULong (negsuc n) e h = absurd (cc)
within-fits Long Char z e h = absurd (cc)
within-fits Long SChar z e h = absurd (cc)
within-fits Long UChar z e h = absurd (cc)
within-fits Long Short z e h = absurd (cc)
within-fits Long UShort z e h = absurd (cc)
within-fits Long Int (pos n) e h = wider n 2147483648 2147483648 (omega arith) h
within-fits Long Int (negsuc n) e h = wider n 2147483648 2147483648 (omega arith) h
within-fits Long UInt z e h = absurd (cc)
within-fits Long Long (pos n) e h = wider n 2147483648 2147483648 (omega arith) h
within-fits Long Long (negsuc n) e h = wider n 2147483648 2147483648 (omega arith) h
within-fits Long ULong z e h = absurd (cc)
within-fits ULong Char z e h = absurd (cc)
within-fits ULong SChar z e h = absurd (cc)
within-fits ULong UChar z e h = absurd (cc)
within-fits ULong Short z e h = absurd (cc)
within-fits ULong UShort z e h = absurd (cc)
within-fits ULong Int z e h = absurd (cc)
within-fits ULong UInt (pos n) e h = wider n 4294967296 4294967296 (omega arith) h
within-fits ULong UInt (negsuc n) e h = absurd (cc)
within-fits ULong Long z e h = absurd (cc)
within-fits ULong ULong (pos n) e h = wider n 4294967296 4294967296 (omega arith) h
within-fits ULong ULong (negsuc n) e h = absurd (cc)

-- 0 and 1 are values of every kind
pub zero-any : (k : Kind) → fits k (pos 0) ≡ true
zero-any Char = refl
zero-any SChar = refl
zero-any UChar = refl
zero-any Short = refl
zero-any UShort = refl
zero-any Int = refl
zero-any UInt = refl
zero-any Long = refl
zero-any ULong = refl

pub one-any : (k : Kind) → fits k (pos 1) ≡ true
one-any Char = refl
one-any SChar = refl
one-any UChar = refl
one-any Short = refl
one-any UShort = refl
one-any Int = refl
one-any UInt = refl
one-any Long = refl
one-any ULong = refl
