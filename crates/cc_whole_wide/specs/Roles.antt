-- What a number of the tokens is, by what stands before it.
use Rattle.std.specs.Prelude.{Bool, true, false, List, [], ◌∷◌}
use Rattle.cc_whole_tokens.specs.declared.mark.Mark.{Mark}
use Rattle.cc_whole_tokens.specs.declared.mark.Mark.TheVariants as mark
use Rattle.cc_whole_tokens.specs.declared.token.Token.{Token}
use Rattle.cc_whole_tokens.specs.declared.token.Token.TheVariants as token
use Rattle.cc_whole_fitting.specs.declared.before.Before.{Before}
use Rattle.cc_whole_fitting.specs.Numbers.{behind, token_fits}
use Rattle.cc_whole_wide.specs.declared.role.Role.{Role}
use Rattle.cc_whole_wide.specs.declared.role.Role.TheVariants as role

-- a comma stands between the number of a pair and its function
abbrev pub comma_role : Role → Role
comma_role role.Label = role.Value
comma_role role.Size = role.Value
comma_role role.Pair = role.Value
comma_role role.Function = role.Function
comma_role role.Value = role.Value

abbrev pub mark_role : Mark → Role → Role
mark_role mark.Case r = role.Label
mark_role mark.LeftBracket r = role.Size
mark_role mark.LeftBrace r = role.Pair
mark_role mark.Comma r = comma_role r
mark_role m r = role.Value

-- behind the number of a pair that does not fit stands its function
abbrev pub behind_wide : Role → Role
behind_wide role.Label = role.Value
behind_wide role.Size = role.Value
behind_wide role.Pair = role.Function
behind_wide role.Function = role.Value
behind_wide role.Value = role.Value

abbrev pub behind_number : Bool → Role → Role
behind_number true r = role.Value
behind_number false r = behind_wide r

-- a `-` that is a sign stands before its number
abbrev pub role_behind : Token → Before → Role → Role
role_behind (token.Mark m) b r = mark_role m r
role_behind token.Dash b r = r
role_behind (token.Name name) b r = role.Value
role_behind (token.Signed digits) b r = behind_number (token_fits (token.Signed digits) b) r
role_behind (token.Unsigned digits) b r = behind_number (token_fits (token.Unsigned digits) b) r
role_behind (token.Text bytes) b r = role.Value
role_behind token.Shared b r = role.Value

-- behind some tokens
abbrev pub roles : List Token → Before → Role → Role
roles [] b r = r
roles (t ∷ ts) b r = roles ts (behind t b) (role_behind t b r)
