-- The types of the small C that objects and functions of the source have there.
use Rattle.std.specs.Prelude.{ℕ, ◌+◌, ◌/◌, List, [], ◌∷◌, ◌++◌}
use Rattle.cf_base.specs.declared.kind.Kind.{Kind}
use Rattle.cf_base.specs.declared.kind.Kind.TheVariants.{Char, SChar, UChar, Short, UShort, Int, UInt, Long, ULong}
use Rattle.cf_core.specs.Types.{SourceType, void, integer, enumeration, class, pointer, reference, array, takes, gives, data_member, function_member, const}
use Rattle.cf_core.specs.Classes.{Class}
use Rattle.cf_core.specs.Size.{size}

pub data CType : Type 0 where
  c_void : CType
  c_char : CType
  c_unsigned_char : CType
  c_short : CType
  c_unsigned_short : CType
  c_int : CType
  c_unsigned : CType
  c_pointer : CType
  c_function : CType
  c_words : ℕ → CType  -- an array of so many ints

abbrev pub c_integer : Kind → CType
c_integer Char = c_char
c_integer SChar = c_char
c_integer UChar = c_unsigned_char
c_integer Short = c_short
c_integer UShort = c_unsigned_short
c_integer Int = c_int
c_integer UInt = c_unsigned
c_integer Long = c_int
c_integer ULong = c_unsigned

-- a pointer to an object is one type, a pointer to a function another
abbrev pub c_pointer_to : SourceType → CType
c_pointer_to (takes p t) = c_function
c_pointer_to (gives t c) = c_function
c_pointer_to t = c_pointer

abbrev pub words : List Class → SourceType → CType
words classes t = c_words ((size classes t + 3) / 4)

-- of an object
abbrev pub c_type : List Class → SourceType → CType
c_type classes void = c_void
c_type classes (integer k) = c_integer k
c_type classes (enumeration e) = c_int
c_type classes (class c) = words classes (class c)
c_type classes (pointer t) = c_pointer_to t
c_type classes (reference t) = c_pointer_to t
c_type classes (array t n) = words classes (array t n)
c_type classes (takes p t) = c_function
c_type classes (gives t c) = c_function
c_type classes (data_member c t) = c_int
c_type classes (function_member c t) = c_words 3
c_type classes (const t) = c_type classes t

-- of a parameter: a class object goes by its place, and a pointer to a member function by its three parts
abbrev pub c_parameter : List Class → SourceType → List CType
c_parameter classes (class c) = c_pointer ∷ []
c_parameter classes (function_member c t) = c_int ∷ c_int ∷ c_function ∷ []
c_parameter classes (const t) = c_parameter classes t
c_parameter classes t = c_type classes t ∷ []

-- what a function gives: a class object or a pointer to a member function is written to a place that comes first
abbrev pub c_result : List Class → SourceType → List CType
c_result classes (class c) = c_void ∷ c_pointer ∷ []
c_result classes (function_member c t) = c_void ∷ c_pointer ∷ []
c_result classes (const t) = c_result classes t
c_result classes t = c_type classes t ∷ []

abbrev pub c_parameters : List Class → SourceType → List CType
c_parameters classes (takes p t) = c_parameter classes p ++ c_parameters classes t
c_parameters classes t = []

abbrev pub c_given : List Class → SourceType → List CType
c_given classes (takes p t) = c_given classes t
c_given classes (gives t c) = c_result classes t
c_given classes t = c_type classes t ∷ []

-- an object's type alone, or a function's result and then its parameters
abbrev pub c_types : List Class → SourceType → List CType
c_types classes t = c_given classes t ++ c_parameters classes t
