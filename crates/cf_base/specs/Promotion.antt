-- Which type the operands of an operator are converted to (4.1, 4.5). Source and small C share it.
use Rattle.cf_base.specs.declared.kind.Kind.{Kind}
use Rattle.cf_base.specs.declared.kind.Kind.TheVariants.{Char, SChar, UChar, Short, UShort, Int, UInt, Long, ULong}

-- integral promotion: `int` holds every value of the smaller types, so they all become int (4.1)
abbrev pub promoted : Kind → Kind
promoted Char = Int
promoted SChar = Int
promoted UChar = Int
promoted Short = Int
promoted UShort = Int
promoted Int = Int
promoted UInt = UInt
promoted Long = Long
promoted ULong = ULong

-- of two promoted types: unsigned long wins; long does not hold all of unsigned int, so these two give unsigned long; then long, unsigned int, int
abbrev pub common : Kind → Kind → Kind
common ULong b = ULong
common a ULong = ULong
common Long UInt = ULong
common UInt Long = ULong
common Long b = Long
common a Long = Long
common UInt b = UInt
common a UInt = UInt
common a b = Int

-- the usual arithmetic conversions (4.5)
abbrev pub usual : Kind → Kind → Kind
usual a b = common (promoted a) (promoted b)
