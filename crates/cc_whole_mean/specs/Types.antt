-- The types of the small C: what a load or a store of each is, and how many bytes a variable takes.
use Rattle.std.specs.Prelude.{ℕ, ◌*◌, ℤ, pos, negsuc}
use Rattle.cf_base.specs.declared.kind.Kind.TheVariants as kind
use Rattle.cc_whole.specs.declared.types.CType.{CType}
use Rattle.cc_whole.specs.declared.types.CType.TheVariants as ty
use Rattle.cc_whole.specs.declared.types.CConstant.{CConstant}
use Rattle.cc_whole.specs.declared.types.CConstant.TheVariants as constant
use Rattle.cc_whole.specs.declared.types.CVariableType.{CVariableType}
use Rattle.cc_whole.specs.declared.types.CVariableType.TheVariants as variable
use Rattle.cc_whole.specs.declared.types.CLocalType.{CLocalType}
use Rattle.cc_whole.specs.declared.types.CLocalType.TheVariants as local
use Rattle.cc_whole_memory.specs.declared.value.Value.{Value}
use Rattle.cc_whole_memory.specs.declared.value.Value.TheVariants as value
use Rattle.cc_whole_memory.specs.declared.value.Scalar.{Scalar}
use Rattle.cc_whole_memory.specs.declared.value.Scalar.TheVariants as scalar
use Rattle.cc_whole_memory.specs.Values.{bytes_of}
use Rattle.cc_whole_mean.specs.declared.named.Shape.{Shape}
use Rattle.cc_whole_mean.specs.declared.named.Shape.TheVariants.{Single as single, Array as array}

abbrev pub scalar_of : CType → Scalar
scalar_of ty.Char = scalar.Integer kind.Char
scalar_of ty.UChar = scalar.Integer kind.UChar
scalar_of ty.Short = scalar.Integer kind.Short
scalar_of ty.UShort = scalar.Integer kind.UShort
scalar_of ty.Int = scalar.Integer kind.Int
scalar_of ty.UInt = scalar.Integer kind.UInt
scalar_of ty.Pointer = scalar.Pointer
scalar_of ty.FunctionPointer = scalar.Function

abbrev pub constant_value : CConstant → Value
constant_value (constant.Signed z) = value.Number kind.Int z
constant_value (constant.Unsigned n) = value.Number kind.UInt (pos n)

-- how many elements an array of this size has
abbrev pub count_of_number : ℤ → ℕ
count_of_number (pos n) = n
count_of_number (negsuc n) = 0

abbrev pub count_of : CConstant → ℕ
count_of (constant.Signed z) = count_of_number z
count_of (constant.Unsigned n) = n

abbrev pub variable_shape : CVariableType → Shape
variable_shape (variable.Scalar t) = single (scalar_of t)
variable_shape (variable.Ints n) = array
variable_shape (variable.Chars n) = array
variable_shape (variable.Pairs n) = array

abbrev pub variable_size : CVariableType → ℕ
variable_size (variable.Scalar t) = bytes_of (scalar_of t)
variable_size (variable.Ints n) = 4 * count_of n
variable_size (variable.Chars n) = count_of n
variable_size (variable.Pairs n) = 8 * count_of n

abbrev pub local_shape : CLocalType → Shape
local_shape (local.Scalar t) = single (scalar_of t)
local_shape (local.Ints n) = array

abbrev pub local_size : CLocalType → ℕ
local_size (local.Scalar t) = bytes_of (scalar_of t)
local_size (local.Ints n) = 4 * count_of n
