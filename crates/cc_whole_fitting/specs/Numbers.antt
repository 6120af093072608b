-- Which numbers of tokens fit 32 bits, each with its sign. A `-` is the sign of the number behind it where no operand stands before it.
use Rattle.std.specs.Prelude.{ℕ, Bool, true, ◌&&◌, List, [], ◌∷◌, pos, neg_ℤ}
use Rattle.std.specs.Str.Parse.{digits_value}
use Rattle.cc_whole_tokens.specs.declared.mark.Mark.{Mark}
use Rattle.cc_whole_tokens.specs.declared.mark.Mark.TheVariants as mark
use Rattle.cc_whole_tokens.specs.declared.token.Token.{Token}
use Rattle.cc_whole_tokens.specs.declared.token.Token.TheVariants as token
use Rattle.cc_whole.specs.declared.types.CConstant.{CConstant}
use Rattle.cc_whole.specs.declared.types.CConstant.TheVariants as int
use Rattle.cc_whole.specs.Numbers.{fits_constant}
use Rattle.cc_whole_fitting.specs.declared.before.Before.{Before}
use Rattle.cc_whole_fitting.specs.declared.before.Before.TheVariants as before

-- ---- what stands before the next token

-- a `)` behind words of a type ends a cast or a place's type, and no operand
abbrev pub behind_paren : Before → Before
behind_paren before.Operand = before.Operand
behind_paren before.Word = before.Other
behind_paren before.Sign = before.Operand
behind_paren before.Other = before.Operand

-- a `*` behind an operand joins two, and else belongs to a type or begins a place
abbrev pub behind_star : Before → Before
behind_star before.Operand = before.Other
behind_star before.Word = before.Word
behind_star before.Sign = before.Word
behind_star before.Other = before.Word

abbrev pub behind_dash : Before → Before
behind_dash before.Operand = before.Other
behind_dash before.Word = before.Sign
behind_dash before.Sign = before.Sign
behind_dash before.Other = before.Sign

abbrev pub behind_mark : Mark → Before → Before
behind_mark mark.RightParen b = behind_paren b
behind_mark mark.Star b = behind_star b
behind_mark mark.Char b = before.Word
behind_mark mark.Short b = before.Word
behind_mark mark.Int b = before.Word
behind_mark mark.Unsigned b = before.Word
behind_mark mark.FunctionPointer b = before.Word
behind_mark m b = before.Other

abbrev pub behind : Token → Before → Before
behind (token.Mark m) b = behind_mark m b
behind token.Dash b = behind_dash b
behind (token.Name name) b = before.Operand
behind (token.Signed digits) b = before.Operand
behind (token.Unsigned digits) b = before.Operand
behind (token.Text bytes) b = before.Other
behind token.Shared b = before.Other

abbrev pub behind_all : List Token → Before → Before
behind_all [] b = b
behind_all (t ∷ ts) b = behind_all ts (behind t b)

-- ---- numbers

-- the constant of this value, behind a sign or not
abbrev pub signed_at : Before → ℕ → CConstant
signed_at before.Operand n = int.Signed (pos n)
signed_at before.Word n = int.Signed (pos n)
signed_at before.Sign n = int.Signed (neg_ℤ (pos n))
signed_at before.Other n = int.Signed (pos n)

abbrev pub token_fits : Token → Before → Bool
token_fits (token.Mark m) b = true
token_fits token.Dash b = true
token_fits (token.Name name) b = true
token_fits (token.Signed digits) b = fits_constant (signed_at b (digits_value 10 digits))
token_fits (token.Unsigned digits) b = fits_constant (int.Unsigned (digits_value 10 digits))
token_fits (token.Text bytes) b = true
token_fits token.Shared b = true

abbrev pub fit_from : List Token → Before → Bool
fit_from [] b = true
fit_from (t ∷ ts) b = token_fits t b && fit_from ts (behind t b)

-- all numbers of the tokens of some items fit
abbrev pub numbers_fit : List Token → Bool
numbers_fit ts = fit_from ts before.Other
