-- The values of the small C, their types, and how many bytes they take (3.6.1).
use Rattle.std.specs.Prelude.{ℕ, pos, Option, Some, None}
use Rattle.cf_base.specs.declared.kind.Kind.{Kind}
use Rattle.cf_base.specs.declared.kind.Kind.TheVariants.{Char, SChar, UChar, Short, UShort, Int, UInt, Long, ULong}
use Rattle.cf_base.specs.Integers.{convert}
use Rattle.cc_whole_memory.specs.declared.value.Pointer.TheVariants as pointer
use Rattle.cc_whole_memory.specs.declared.value.Value.{Value}
use Rattle.cc_whole_memory.specs.declared.value.Value.TheVariants as value
use Rattle.cc_whole_memory.specs.declared.value.Scalar.{Scalar}
use Rattle.cc_whole_memory.specs.declared.value.Scalar.TheVariants as scalar

abbrev pub kind_bytes : Kind → ℕ
kind_bytes Char = 1
kind_bytes SChar = 1
kind_bytes UChar = 1
kind_bytes Short = 2
kind_bytes UShort = 2
kind_bytes Int = 4
kind_bytes UInt = 4
kind_bytes Long = 4
kind_bytes ULong = 4

-- how many bytes a value of the type takes
abbrev pub bytes_of : Scalar → ℕ
bytes_of (scalar.Integer k) = kind_bytes k
bytes_of scalar.Pointer = 4
bytes_of scalar.Function = 4

abbrev pub type_of : Value → Scalar
type_of (value.Number k z) = scalar.Integer k
type_of (value.Address p) = scalar.Pointer
type_of (value.Function f) = scalar.Function

abbrev pub size_of : Value → ℕ
size_of v = bytes_of (type_of v)

-- a value as one of the type, if it is of that kind; an integer is taken modulo its width (4.3)
abbrev pub as_scalar : Scalar → Value → Option Value
as_scalar (scalar.Integer k) (value.Number j z) = Some (value.Number k (convert k z))
as_scalar scalar.Pointer (value.Address p) = Some (value.Address p)
as_scalar scalar.Function (value.Function f) = Some (value.Function f)
as_scalar t v = None

abbrev pub zero_of : Scalar → Value
zero_of (scalar.Integer k) = value.Number k (pos 0)
zero_of scalar.Pointer = value.Address pointer.Null
zero_of scalar.Function = value.Function 0
