-- How the code reads integer constants.
use Rattle.std.specs.Prelude.{ℕ, suc, if◌then◌else◌, ◌∷◌, length, pos, neg_ℤ, Option, Some, None, Ok, Err}
use Rattle.std.specs.Str.Parse.{digits_value}
use Rattle.cc_whole_tokens.specs.declared.token.Token.TheVariants as token
use Rattle.cc_whole.specs.declared.types.CConstant.{CConstant}
use Rattle.cc_whole.specs.declared.types.CConstant.TheVariants as int
use Rattle.cc_whole.specs.Numbers.{fits_constant}
use Rattle.cc_whole_reading.specs.declared.stop.Stop.TheVariants as stop
use Rattle.cc_whole_reading.specs.declared.constants.Constants.{Constants}
use Rattle.cc_whole_reading.specs.declared.constants.Constants.TheVariants as constants
use Rattle.cc_whole_reading.specs.Parse.{Parse, if_test, past, sees_a, is_dash}

-- what stands in the tree for a constant of the text, if it may be read
abbrev pub Keep : Type 0
Keep = CConstant → Option CConstant

-- those that fit 32 bits
abbrev pub fitting : Keep
fitting c = if fits_constant c then Some c else None

-- 0 of the same kind
abbrev pub zero_of : CConstant → CConstant
zero_of (int.Signed z) = int.Signed (pos 0)
zero_of (int.Unsigned n) = int.Unsigned 0

abbrev pub or_zero : Constants → Option CConstant → CConstant → Option CConstant
or_zero constants.Exact o z = o
or_zero constants.Any None z = Some z
or_zero constants.Any (Some c) z = Some c

-- what the code takes: those that fit alone, or 0 for each that does not
abbrev pub keeps : Constants → Keep
keeps wanted c = or_zero wanted (fitting c) (zero_of c)

-- the number of the tokens that are left stands behind the constant
abbrev pub converted : Option CConstant → ℕ → Parse CConstant
converted None left ts = Err (stop.Unfit left)
converted (Some c) left ts = Ok (c, ts)

-- digits without a `-`
unfoldable pub positive : Keep → Parse CConstant
positive keep (token.Signed digits ∷ ts) = converted (keep (int.Signed (pos (digits_value 10 digits)))) (suc (length ts)) ts
positive keep (token.Unsigned digits ∷ ts) = converted (keep (int.Unsigned (digits_value 10 digits))) (suc (length ts)) ts
positive keep ts = Err (stop.NotC (length ts))

-- the digits behind a `-`
unfoldable pub negative : Keep → Parse CConstant
negative keep (token.Signed digits ∷ ts) = converted (keep (int.Signed (neg_ℤ (pos (digits_value 10 digits))))) (suc (length ts)) ts
negative keep ts = Err (stop.NotC (length ts))

unfoldable pub constant : Keep → Parse CConstant
constant keep = if_test (sees_a is_dash) (past (negative keep)) (positive keep)
