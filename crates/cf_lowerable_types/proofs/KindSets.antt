-- What is so of each kind.
use Rattle.std.proofs.Common.{◌≡◌, Bool}
use Rattle.cf_base.specs.declared.kind.Kind.{Kind}
use Rattle.cf_base.specs.declared.kind.Kind.TheVariants.{Char, SChar, UChar, Short, UShort, Int, UInt, Long, ULong}

-- two sets of kinds are one where they have the same kinds
pub same_kinds : (f h : Kind → Bool) → ((k : Kind) → f k ≡ h k) → f ≡ h
same_kinds f h e = λ j k. e k j

pub for_each : (f h : Kind → Bool) → f Char ≡ h Char → f SChar ≡ h SChar → f UChar ≡ h UChar → f Short ≡ h Short → f UShort ≡ h UShort → f Int ≡ h Int → f UInt ≡ h UInt
    → f Long ≡ h Long → f ULong ≡ h ULong → f ≡ h
for_each f h a b c d e i u l m = same_kinds f h by
  where
    by : (k : Kind) → f k ≡ h k
    by Char = a
    by SChar = b
    by UChar = c
    by Short = d
    by UShort = e
    by Int = i
    by UInt = u
    by Long = l
    by ULong = m
