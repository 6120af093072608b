-- What the scalars of the source are in the small C: integers of the same width, addresses of objects, functions (3.6.1, 3.6.2).
use Rattle.std.specs.Prelude.{Option, Some, None}
use Rattle.cf_base.specs.declared.kind.Kind.{Kind}
use Rattle.cf_base.specs.declared.kind.Kind.TheVariants.{Char, SChar, UChar, Short, UShort, Int, UInt, Long, ULong}
use Rattle.cf_core.specs.Types.{SourceType, integer, enumeration, pointer, reference, takes, gives, without_const}

-- a number of this kind, an address of a place of this type, a function of this type; the types are without const
pub data Sort : Type 0 where
  number : Kind → Sort
  address : SourceType → Sort
  code : SourceType → Sort

-- what a pointer or a reference to this type is
abbrev pub sort_to : SourceType → Sort
sort_to (takes p t) = code (takes p t)
sort_to (gives t b) = code (gives t b)
sort_to t = address t

abbrev pub scalar_sort : SourceType → Option Sort
scalar_sort (integer k) = Some (number k)
scalar_sort (enumeration e) = Some (number Int)
scalar_sort (pointer t) = Some (sort_to t)
scalar_sort (reference t) = Some (sort_to t)
scalar_sort t = None

-- what a scalar of this type is, const being left out at all levels; pointers to members are not there yet
abbrev pub sort_of : SourceType → Option Sort
sort_of t = scalar_sort (without_const t)

-- the kind of the C's integer of the same width and sign
abbrev pub c_kind : Kind → Kind
c_kind Char = Char
c_kind SChar = Char
c_kind UChar = UChar
c_kind Short = Short
c_kind UShort = UShort
c_kind Int = Int
c_kind UInt = UInt
c_kind Long = Int
c_kind ULong = UInt
