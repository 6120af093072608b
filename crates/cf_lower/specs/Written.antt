-- The C's types and names of objects, registers and flags. A name of the source has no `__`, and no link name is one of these.
use Rattle.std.specs.Prelude.{ℕ, ◌+◌, ◌/◌, List, ◌++◌, pos, Option, Some, None, codes, decimal}
use Rattle.cf_base.specs.declared.kind.Kind.{Kind}
use Rattle.cf_base.specs.declared.kind.Kind.TheVariants.{Char, SChar, UChar, Short, UShort, Int, UInt, Long, ULong}
use Rattle.cf_core.specs.Types.{Name, SourceType}
use Rattle.cf_core.specs.Classes.{Class}
use Rattle.cf_core.specs.Size.{size}
use Rattle.cf_lower_layout.specs.Sorts.{Sort, number, address, code, sort_of}
use Rattle.cc_whole.specs.declared.types.CType.{CType}
use Rattle.cc_whole.specs.declared.types.CType.TheVariants as ty
use Rattle.cc_whole.specs.declared.types.CConstant.{CConstant}
use Rattle.cc_whole.specs.declared.types.CConstant.TheVariants as constants
use Rattle.cc_whole.specs.declared.types.CVariableType.{CVariableType}
use Rattle.cc_whole.specs.declared.types.CVariableType.TheVariants as variable
use Rattle.cc_whole.specs.declared.types.CLocalType.{CLocalType}
use Rattle.cc_whole.specs.declared.types.CLocalType.TheVariants as local

-- ---- types

abbrev pub c_integer : Kind → CType
c_integer Char = ty.Char
c_integer SChar = ty.Char
c_integer UChar = ty.UChar
c_integer Short = ty.Short
c_integer UShort = ty.UShort
c_integer Int = ty.Int
c_integer UInt = ty.UInt
c_integer Long = ty.Int
c_integer ULong = ty.UInt

abbrev pub c_type : Sort → CType
c_type (number k) = c_integer k
c_type (address t) = ty.Pointer
c_type (code t) = ty.FunctionPointer

-- what there is for a scalar, or for what is none
abbrev pub if_scalar : {A : Type 0} → Option Sort → A → (Sort → A) → A
if_scalar None a f = a
if_scalar (Some s) a f = f s

-- of the register that holds it
abbrev pub register_type : Sort → CType
register_type (number k) = ty.Int
register_type s = c_type s

-- the int constant of a number
abbrev pub int_constant : ℕ → CConstant
int_constant n = constants.Signed (pos n)

abbrev pub words : List Class → SourceType → CConstant
words classes t = int_constant ((size classes t + 3) / 4)

-- a scalar is one; any other object is an array of ints
abbrev pub local_type : List Class → SourceType → CLocalType
local_type classes t = if_scalar (sort_of t) (local.Ints (words classes t)) (λ s. local.Scalar (c_type s))

abbrev pub variable_type : List Class → SourceType → CVariableType
variable_type classes t = if_scalar (sort_of t) (variable.Ints (words classes t)) (λ s. variable.Scalar (c_type s))

-- what a function gives; nothing where it is void
abbrev pub result_of : SourceType → Option CType
result_of t = if_scalar (sort_of t) None (λ s. Some (c_type s))

-- ---- names

-- a parameter or local
abbrev pub local_name : ℕ → Name
local_name i = codes "__l" ++ decimal i

-- a register, as an integer, a pointer or a pointer to a function
abbrev pub register_name : Sort → ℕ → Name
register_name (number k) r = codes "__i" ++ decimal r
register_name (address t) r = codes "__p" ++ decimal r
register_name (code t) r = codes "__f" ++ decimal r

-- the flag of a loop or switch that so many stand around
abbrev pub flag_name : ℕ → Name
flag_name d = codes "__w" ++ decimal d

abbrev pub type_number : CType → ℕ
type_number ty.Char = 0
type_number ty.UChar = 1
type_number ty.Short = 2
type_number ty.UShort = 3
type_number ty.Int = 4
type_number ty.UInt = 5
type_number ty.Pointer = 6
type_number ty.FunctionPointer = 7

-- what a call gives, before a register holds it
abbrev pub result_name : CType → Name
result_name t = codes "__v" ++ decimal (type_number t)

-- a string literal of a function
abbrev pub literal_name : Name → ℕ → Name
literal_name f j = codes "__s" ++ decimal j ++ codes "__" ++ f
