-- What stands for some tokens, and where their first number is that does not fit.
use Rattle.std.proofs.Common.{◌≡◌, List, [], ◌∷◌, Some, None, codes, refl}
use Rattle.cc_whole_tokens.specs.declared.mark.Mark.TheVariants as mark
use Rattle.cc_whole_tokens.specs.declared.token.Token.{Token}
use Rattle.cc_whole_tokens.specs.declared.token.Token.TheVariants as token
use Rattle.cc_whole_wide.specs.Others.{zero_token, main_token, first_wide, others}

-- `return 4294967296`
wide_return : List Token
wide_return = token.Mark mark.Return ∷ token.Signed (codes "4294967296") ∷ []

value_of_return : others wide_return ≡ token.Mark mark.Return ∷ token.Mark mark.LeftParen ∷ token.Mark mark.FunctionPointer ∷ token.Mark mark.RightParen ∷ token.Signed (codes "1") ∷ []
unfolding wide_return
value_of_return = refl

place_of_return : first_wide wide_return ≡ Some 1
unfolding wide_return
place_of_return = refl

-- `return -2147483648`, which fits, and `return 1 -2147483648`, which does not
least : List Token
least = token.Mark mark.Return ∷ token.Dash ∷ token.Signed (codes "2147483648") ∷ []

least_stays : others least ≡ least
unfolding least
least_stays = refl

least_fits : first_wide least ≡ None
unfolding least
least_fits = refl

difference : List Token
difference = token.Mark mark.Return ∷ token.Signed (codes "1") ∷ token.Dash ∷ token.Signed (codes "2147483648") ∷ []

place_of_difference : first_wide difference ≡ Some 2
unfolding difference
place_of_difference = refl

-- `[4294967296u]`
wide_size : List Token
wide_size = token.Mark mark.LeftBracket ∷ token.Unsigned (codes "4294967296") ∷ token.Mark mark.RightBracket ∷ []

size_is_0 : others wide_size ≡ token.Mark mark.LeftBracket ∷ zero_token ∷ token.Mark mark.RightBracket ∷ []
unfolding wide_size
size_is_0 = refl

-- `{-4294967296, f}`
wide_pair : List Token
wide_pair =
    token.Mark mark.LeftBrace ∷ token.Dash ∷ token.Signed (codes "4294967296") ∷ token.Mark mark.Comma ∷ token.Name (codes "f") ∷ token.Mark mark.RightBrace ∷ []

pair_of_main : others wide_pair ≡ token.Mark mark.LeftBrace ∷ zero_token ∷ token.Mark mark.Comma ∷ main_token ∷ token.Mark mark.RightBrace ∷ []
unfolding wide_pair
pair_of_main = refl
