-- The bytes of a program's variables, of which there are at most 2 ^ 22.
use Rattle.std.specs.Prelude.{ℕ, ◌+◌, ◌*◌, ◌/◌, ◌^◌, List, [], ◌∷◌}
use Rattle.cc_whole.specs.declared.types.CType.{CType}
use Rattle.cc_whole.specs.declared.types.CType.TheVariants as ty
use Rattle.cc_whole.specs.declared.types.CVariableType.{CVariableType}
use Rattle.cc_whole.specs.declared.types.CVariableType.TheVariants as variable
use Rattle.cc_whole.specs.declared.unit.CVariable.{CVariable}
use Rattle.cc_whole.specs.Numbers.{size_of}

abbrev pub type_bytes : CType → ℕ
type_bytes ty.Char = 1
type_bytes ty.UChar = 1
type_bytes ty.Short = 2
type_bytes ty.UShort = 2
type_bytes t = 4

abbrev pub variable_bytes : CVariableType → ℕ
variable_bytes (variable.Scalar t) = type_bytes t
variable_bytes (variable.Ints c) = 4 * size_of c
variable_bytes (variable.Chars c) = size_of c
variable_bytes (variable.Pairs c) = 8 * size_of c

-- rounded up to 8
abbrev pub rounded : ℕ → ℕ
rounded n = 8 * ((n + 7) / 8)

abbrev pub static_bytes : List CVariable → ℕ
static_bytes [] = 0
static_bytes (v ∷ rest) = rounded (variable_bytes v.ty) + static_bytes rest

abbrev pub most_static : ℕ
most_static = 2 ^ 22
