-- The tokens that stand for those of some items, without numbers that do not fit 32 bits, and where the first such number stands.
use Rattle.std.specs.Prelude.{ℕ, ◌+◌, Bool, true, false, if◌then◌else◌, List, [], ◌∷◌, ◌++◌, Option, Some, None, codes, decimal}
use Rattle.std.specs.Str.Parse.{digits_value}
use Rattle.cc_whole_tokens.specs.declared.mark.Mark.TheVariants as mark
use Rattle.cc_whole_tokens.specs.declared.token.Token.{Token}
use Rattle.cc_whole_tokens.specs.declared.token.Token.TheVariants as token
use Rattle.cc_whole.specs.declared.types.CConstant.{CConstant}
use Rattle.cc_whole.specs.declared.types.CConstant.TheVariants as int
use Rattle.cc_whole.specs.Numbers.{label_of}
use Rattle.cc_whole_laws.specs.Landmark.{landmark}
use Rattle.cc_whole_fitting.specs.declared.before.Before.{Before}
use Rattle.cc_whole_fitting.specs.declared.before.Before.TheVariants as before
use Rattle.cc_whole_fitting.specs.Numbers.{behind, signed_at, token_fits}
use Rattle.cc_whole_wide.specs.declared.role.Role.{Role}
use Rattle.cc_whole_wide.specs.declared.role.Role.TheVariants as role
use Rattle.cc_whole_wide.specs.Roles.{role_behind}

-- ---- the first number that does not fit

-- a place in a part before which so many landmarks stand
abbrev pub later : ℕ → Option ℕ → Option ℕ
later n None = None
later n (Some w) = Some (n + w)

-- how many landmarks stand before it
abbrev pub wide_from : List Token → Before → Option ℕ
wide_from [] b = None
wide_from (t ∷ ts) b = if token_fits t b then later (landmark t) (wide_from ts (behind t b)) else Some 0

abbrev pub first_wide : List Token → Option ℕ
first_wide ts = wide_from ts before.Other

-- ---- what stands in its place

-- the constant 0
abbrev pub zero_token : Token
zero_token = token.Signed (48 ∷ [])

-- a name that no pair may have
abbrev pub main_token : Token
main_token = token.Name (codes "main")

-- `(__f)1`, which breaks V3 behind its first landmark
abbrev pub breaking_tokens : List Token
breaking_tokens = token.Mark mark.LeftParen ∷ token.Mark mark.FunctionPointer ∷ token.Mark mark.RightParen ∷ token.Signed (49 ∷ []) ∷ []

-- a label of the same 32 bits, behind it a statement that breaks V3, and another label
abbrev pub label_tokens : List ℕ → List Token
label_tokens digits =
    token.Unsigned digits ∷ token.Mark mark.Colon ∷ token.Mark mark.If ∷ token.Mark mark.LeftParen ∷ token.Mark mark.LeftParen ∷ token.Mark mark.FunctionPointer
    ∷ token.Mark mark.RightParen ∷ token.Signed (49 ∷ []) ∷ token.Mark mark.RightParen ∷ token.Mark mark.LeftBrace ∷ token.Mark mark.RightBrace ∷ token.Mark mark.Case ∷ zero_token ∷ []

-- in place of a constant that does not fit, with the 32 bits that it has as a label
abbrev pub instead : Role → ℕ → List Token
instead role.Label bits = label_tokens (decimal bits)
instead role.Size bits = zero_token ∷ []
instead role.Pair bits = zero_token ∷ []
instead role.Function bits = main_token ∷ []
instead role.Value bits = breaking_tokens

-- tokens that stay, but for the function of a pair whose number does not fit
abbrev pub kept : Role → List Token → List Token
kept role.Label own = own
kept role.Size own = own
kept role.Pair own = own
kept role.Function own = main_token ∷ []
kept role.Value own = own

abbrev pub numbered : Bool → List Token → Role → CConstant → List Token
numbered true own r c = kept r own
numbered false own r c = instead r (label_of c)

-- a number with its sign
abbrev pub with_sign : Before → Token → List Token
with_sign before.Operand t = t ∷ []
with_sign before.Word t = t ∷ []
with_sign before.Sign t = token.Dash ∷ t ∷ []
with_sign before.Other t = t ∷ []

-- a sign is put with its number
abbrev pub dash : Before → List Token
dash before.Operand = token.Dash ∷ []
dash before.Word = []
dash before.Sign = []
dash before.Other = []

abbrev pub put : Token → Before → Role → List Token
put (token.Mark m) b r = token.Mark m ∷ []
put token.Dash b r = dash b
put (token.Name name) b r = kept r (token.Name name ∷ [])
put (token.Signed digits) b r =
    numbered (token_fits (token.Signed digits) b) (with_sign b (token.Signed digits)) r (signed_at b (digits_value 10 digits))
put (token.Unsigned digits) b r = numbered (token_fits (token.Unsigned digits) b) (token.Unsigned digits ∷ []) r (int.Unsigned (digits_value 10 digits))
put (token.Text bytes) b r = token.Text bytes ∷ []
put token.Shared b r = token.Shared ∷ []

abbrev pub others_from : List Token → Before → Role → List Token
others_from [] b r = []
others_from (t ∷ ts) b r = put t b r ++ others_from ts (behind t b) (role_behind t b r)

-- the tokens that stand for those of some items
abbrev pub others : List Token → List Token
others ts = others_from ts before.Other role.Value
