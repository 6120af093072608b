-- The text that is printed for types, variables and locals.
use Rattle.std.specs.Prelude.{ℕ, Option, Some, None, List, [], ◌∷◌, ◌++◌, map}
use Rattle.cc_whole_tokens.specs.declared.mark.Mark.{Mark}
use Rattle.cc_whole_tokens.specs.declared.mark.Mark.TheVariants as mark
use Rattle.cc_whole.specs.declared.types.CType.{CType}
use Rattle.cc_whole.specs.declared.types.CType.TheVariants as ty
use Rattle.cc_whole.specs.declared.types.CConstant.{CConstant}
use Rattle.cc_whole.specs.declared.types.CSignature.{CSignature}
use Rattle.cc_whole.specs.declared.types.CVariableType.{CVariableType}
use Rattle.cc_whole.specs.declared.types.CVariableType.TheVariants as variable
use Rattle.cc_whole.specs.declared.types.CLocalType.{CLocalType}
use Rattle.cc_whole.specs.declared.types.CLocalType.TheVariants as «local»
use Rattle.cc_whole.specs.declared.statement.CLocal.{CLocal}
use Rattle.cc_whole_print.specs.Lines.{spaced, printed_mark, constant_text, with_commas}

abbrev pub two_text : Mark → Mark → List ℕ
two_text m n = printed_mark m ++ printed_mark n

abbrev pub type_text : CType → List ℕ
type_text ty.Char = printed_mark mark.Char
type_text ty.UChar = two_text mark.Unsigned mark.Char
type_text ty.Short = printed_mark mark.Short
type_text ty.UShort = two_text mark.Unsigned mark.Short
type_text ty.Int = printed_mark mark.Int
type_text ty.UInt = printed_mark mark.Unsigned
type_text ty.Pointer = two_text mark.Char mark.Star
type_text ty.FunctionPointer = printed_mark mark.FunctionPointer

abbrev pub result_text : Option CType → List ℕ
result_text None = printed_mark mark.Void
result_text (Some t) = type_text t

abbrev pub types_text : List CType → List ℕ
types_text [] = printed_mark mark.Void
types_text (t ∷ ts) = with_commas (map type_text (t ∷ ts))

-- `(*)`
abbrev pub star_text : List ℕ
star_text = printed_mark mark.LeftParen ++ (printed_mark mark.Star ++ printed_mark mark.RightParen)

-- `(type (*)(types))`
abbrev pub signature_text : CSignature → List ℕ
signature_text s =
    printed_mark mark.LeftParen
    ++ (result_text s.result
    ++ (star_text ++ (printed_mark mark.LeftParen ++ (types_text s.parameters ++ two_text mark.RightParen mark.RightParen))))

-- `NAME[constant]`
abbrev pub array_text : List ℕ → CConstant → List ℕ
array_text name c = spaced name ++ (printed_mark mark.LeftBracket ++ (constant_text c ++ printed_mark mark.RightBracket))

abbrev pub array_of_text : Mark → List ℕ → CConstant → List ℕ
array_of_text m name c = printed_mark m ++ array_text name c

abbrev pub scalar_text : CType → List ℕ → List ℕ
scalar_text t name = type_text t ++ spaced name

abbrev pub variable_text : CVariableType → List ℕ → List ℕ
variable_text (variable.Scalar t) name = scalar_text t name
variable_text (variable.Ints c) name = array_of_text mark.Int name c
variable_text (variable.Chars c) name = array_of_text mark.Char name c
variable_text (variable.Pairs c) name = printed_mark mark.Struct ++ array_of_text mark.Pair name c

abbrev pub named_local_text : CLocalType → List ℕ → List ℕ
named_local_text («local».Scalar t) name = scalar_text t name
named_local_text («local».Ints c) name = array_of_text mark.Int name c

abbrev pub local_text : CLocal → List ℕ
local_text l = named_local_text l.ty l.name ++ printed_mark mark.Semicolon
