-- The grammar of the small C: which tokens spell constants, types and declarators. Each constructor is one production.
use Rattle.std.specs.Prelude.{ℕ, List, [], ◌∷◌, ◌++◌, pos, neg_ℤ, Option, Some, None}
use Rattle.std.specs.Str.Parse.{digits_value}
use Rattle.cc_whole_tokens.specs.declared.mark.Mark.{Mark}
use Rattle.cc_whole_tokens.specs.declared.mark.Mark.TheVariants as mark
use Rattle.cc_whole_tokens.specs.declared.token.Token.{Token}
use Rattle.cc_whole_tokens.specs.declared.token.Token.TheVariants as token
use Rattle.cc_whole.specs.declared.types.CType.{CType}
use Rattle.cc_whole.specs.declared.types.CType.TheVariants as ty
use Rattle.cc_whole.specs.declared.types.CConstant.{CConstant}
use Rattle.cc_whole.specs.declared.types.CConstant.TheVariants as int
use Rattle.cc_whole.specs.declared.types.CSignature.{CSignature}
use Rattle.cc_whole.specs.declared.types.CVariableType.{CVariableType}
use Rattle.cc_whole.specs.declared.types.CVariableType.TheVariants as variable
use Rattle.cc_whole.specs.declared.types.CLocalType.{CLocalType}
use Rattle.cc_whole.specs.declared.types.CLocalType.TheVariants as «local»

abbrev pub sign : Mark → List Token
sign m = token.Mark m ∷ []

-- digits, with a `-` that they follow directly or with none, or digits with a `u`
pub data SpellsConstant : CConstant → List Token → Type 0 where
  signed : (digits : List ℕ) → SpellsConstant (int.Signed (pos (digits_value 10 digits))) (token.Signed digits ∷ [])
  negative : (digits : List ℕ) → SpellsConstant (int.Signed (neg_ℤ (pos (digits_value 10 digits)))) (token.Dash ∷ token.Signed digits ∷ [])
  unsigned : (digits : List ℕ) → SpellsConstant (int.Unsigned (digits_value 10 digits)) (token.Unsigned digits ∷ [])

-- the words of a type; `char *` is two tokens
abbrev pub type_tokens : CType → List Token
type_tokens ty.Char = sign mark.Char
type_tokens ty.UChar = token.Mark mark.Unsigned ∷ sign mark.Char
type_tokens ty.Short = sign mark.Short
type_tokens ty.UShort = token.Mark mark.Unsigned ∷ sign mark.Short
type_tokens ty.Int = sign mark.Int
type_tokens ty.UInt = sign mark.Unsigned
type_tokens ty.Pointer = token.Mark mark.Char ∷ sign mark.Star
type_tokens ty.FunctionPointer = sign mark.FunctionPointer

-- a result, or `void` where there is none
abbrev pub result_tokens : Option CType → List Token
result_tokens None = sign mark.Void
result_tokens (Some t) = type_tokens t

-- one type or more, with commas between them
abbrev pub some_types : CType → List CType → List Token
some_types t [] = type_tokens t
some_types t (u ∷ rest) = type_tokens t ++ (token.Mark mark.Comma ∷ some_types u rest)

-- the types of parameters, or `void` where there are none
abbrev pub types_tokens : List CType → List Token
types_tokens [] = sign mark.Void
types_tokens (t ∷ rest) = some_types t rest

-- `(type (*)(types))`, the type of a function that is called through a pointer
abbrev pub signature_tokens : CSignature → List Token
signature_tokens s =
    token.Mark mark.LeftParen ∷ (result_tokens s.result
    ++ (token.Mark mark.LeftParen ∷ token.Mark mark.Star ∷ token.Mark mark.RightParen ∷ token.Mark mark.LeftParen ∷ (types_tokens s.parameters
    ++ (token.Mark mark.RightParen ∷ sign mark.RightParen))))

-- `NAME[constant]`, with the tokens of the constant
abbrev pub array_tokens : List ℕ → List Token → List Token
array_tokens name size = token.Name name ∷ token.Mark mark.LeftBracket ∷ (size ++ sign mark.RightBracket)

-- a variable of a unit, with its name
pub data SpellsVariable : CVariableType → List ℕ → List Token → Type 0 where
  scalar : (t : CType) (name : List ℕ) → SpellsVariable (variable.Scalar t) name (type_tokens t ++ (token.Name name ∷ []))
  ints : (c : CConstant) (cs : List Token) (name : List ℕ) → SpellsConstant c cs
      → SpellsVariable (variable.Ints c) name (token.Mark mark.Int ∷ array_tokens name cs)
  chars : (c : CConstant) (cs : List Token) (name : List ℕ) → SpellsConstant c cs
      → SpellsVariable (variable.Chars c) name (token.Mark mark.Char ∷ array_tokens name cs)
  pairs : (c : CConstant) (cs : List Token) (name : List ℕ) → SpellsConstant c cs
      → SpellsVariable (variable.Pairs c) name (token.Mark mark.Struct ∷ token.Mark mark.Pair ∷ array_tokens name cs)

-- a local of a body, with its name
pub data SpellsLocal : CLocalType → List ℕ → List Token → Type 0 where
  scalar : (t : CType) (name : List ℕ) → SpellsLocal («local».Scalar t) name (type_tokens t ++ (token.Name name ∷ []))
  ints : (c : CConstant) (cs : List Token) (name : List ℕ) → SpellsConstant c cs
      → SpellsLocal («local».Ints c) name (token.Mark mark.Int ∷ array_tokens name cs)
