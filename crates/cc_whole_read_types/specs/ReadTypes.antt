-- How the code reads types, and names that are declared with their types.
use Rattle.std.specs.Prelude.{ℕ, Bool, true, false, ◌&&◌, ◌||◌, List, [], ◌∷◌, Option, Some, None}
use Rattle.cc_whole_tokens.specs.declared.mark.Mark.TheVariants as mark
use Rattle.cc_whole_tokens.specs.declared.token.Token.{Token}
use Rattle.cc_whole.specs.declared.types.CType.{CType}
use Rattle.cc_whole.specs.declared.types.CType.TheVariants as ty
use Rattle.cc_whole.specs.declared.types.CConstant.{CConstant}
use Rattle.cc_whole.specs.declared.types.CSignature.{CSignature}
use Rattle.cc_whole.specs.declared.types.CVariableType.{CVariableType}
use Rattle.cc_whole.specs.declared.types.CVariableType.TheVariants as variable
use Rattle.cc_whole.specs.declared.types.CLocalType.TheVariants as «local»
use Rattle.cc_whole.specs.declared.statement.CLocal.{CLocal}
use Rattle.cc_whole_reading.specs.Parse.{Parse, ◌>>=◌, pure, if_test, if_next, past, all_of, sees, expect, name}
use Rattle.cc_whole_reading.specs.Constants.{Keep, constant}
use Rattle.cc_whole_read_types.specs.declared.variable.Declared.{Declared}

-- ---- types

-- behind `char`
unfoldable pub char_type : Parse CType
char_type = if_next mark.Star (pure ty.Pointer) (pure ty.Char)

-- behind `unsigned`
unfoldable pub unsigned_type : Parse CType
unsigned_type = if_next mark.Char (pure ty.UChar) (if_next mark.Short (pure ty.UShort) (pure ty.UInt))

unfoldable pub function_pointer : Parse CType
function_pointer = do
  _ ← expect mark.FunctionPointer
  pure ty.FunctionPointer

-- a type that does not begin with `char`
unfoldable pub other_type : Parse CType
other_type = if_next mark.Unsigned unsigned_type (if_next mark.Short (pure ty.Short) (if_next mark.Int (pure ty.Int) function_pointer))

unfoldable pub type_name : Parse CType
type_name = if_next mark.Char char_type other_type

unfoldable pub some_type : Parse (Option CType)
some_type = do
  t ← type_name
  pure (Some t)

unfoldable pub result_type : Parse (Option CType)
result_type = if_next mark.Void (pure None) some_type

-- a type and a `*`: behind `char`
unfoldable pub pointed_char : Parse CType
pointed_char = do
  _ ← expect mark.Star
  if_next mark.Star (pure ty.Pointer) (pure ty.Char)

unfoldable pub pointed_other : Parse CType
pointed_other = do
  t ← other_type
  _ ← expect mark.Star
  pure t

unfoldable pub pointed_type : Parse CType
pointed_type = if_next mark.Char pointed_char pointed_other

-- whether a word of a type comes next
abbrev pub sees_type : List Token → Bool
sees_type ts = sees mark.Char ts || (sees mark.Unsigned ts || (sees mark.Short ts || (sees mark.Int ts || sees mark.FunctionPointer ts)))

-- ---- types of functions

abbrev pub more_types : List CType → Parse (List CType)
more_types found = all_of (sees mark.Comma) (past type_name) found

unfoldable pub some_types : Parse (List CType)
some_types = type_name >>= (λ t. more_types (t ∷ []))

unfoldable pub types : Parse (List CType)
types = if_next mark.Void (pure []) some_types

-- behind the result
unfoldable pub parameters_of : Option CType → Parse CSignature
parameters_of result = do
  _ ← expect mark.LeftParen
  _ ← expect mark.Star
  _ ← expect mark.RightParen
  _ ← expect mark.LeftParen
  ts ← types
  _ ← expect mark.RightParen
  _ ← expect mark.RightParen
  pure (record { result = result; parameters = ts })

-- `(type (*)(types))`
unfoldable pub signature : Parse CSignature
signature = do
  _ ← expect mark.LeftParen
  result ← result_type
  parameters_of result

-- ---- names with types

-- behind `[`
unfoldable pub size : Keep → Parse CConstant
size keep = do
  c ← constant keep
  _ ← expect mark.RightBracket
  pure c

abbrev pub is_int : CType → Bool
is_int ty.Int = true
is_int t = false

abbrev pub is_char : CType → Bool
is_char ty.Char = true
is_char t = false

unfoldable pub ints : Keep → List ℕ → Parse CLocal
ints keep word = do
  c ← size keep
  pure (record { ty = «local».Ints c; name = word })

-- behind the name of a local
unfoldable pub local_of : Keep → CType → List ℕ → Parse CLocal
local_of keep t word = if_test (λ ts. is_int t && sees mark.LeftBracket ts) (past (ints keep word)) (pure (record { ty = «local».Scalar t; name = word }))

unfoldable pub local_named : Keep → CType → Parse CLocal
local_named keep t = name >>= (λ word. local_of keep t word)

unfoldable pub one_local : Keep → Parse CLocal
one_local keep = type_name >>= (λ t. local_named keep t)

abbrev pub array_of : CType → CConstant → CVariableType
array_of ty.Char c = variable.Chars c
array_of t c = variable.Ints c

unfoldable pub array : Keep → CType → List ℕ → Parse Declared
array keep t word = do
  c ← size keep
  pure (record { ty = array_of t c; name = word })

-- behind the name of a variable
unfoldable pub variable_of : Keep → CType → List ℕ → Parse Declared
variable_of keep t word =
    if_test (λ ts. (is_int t || is_char t) && sees mark.LeftBracket ts) (past (array keep t word)) (pure (record { ty = variable.Scalar t; name = word }))

unfoldable pub variable_named : Keep → CType → Parse Declared
variable_named keep t = name >>= (λ word. variable_of keep t word)

unfoldable pub variable_typed : Keep → Parse Declared
variable_typed keep = type_name >>= (λ t. variable_named keep t)

-- behind `struct`
unfoldable pub pairs : Keep → Parse Declared
pairs keep = do
  _ ← expect mark.Pair
  word ← name
  _ ← expect mark.LeftBracket
  c ← size keep
  pure (record { ty = variable.Pairs c; name = word })

unfoldable pub one_variable : Keep → Parse Declared
one_variable keep = if_next mark.Struct (pairs keep) (variable_typed keep)
