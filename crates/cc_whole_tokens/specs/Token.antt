-- How the tokens of the whole small C are spelled, but for strings, which have many spellings.
use Rattle.std.specs.Prelude.{ℕ, Bool, true, false, not, ◌||◌, ◌&&◌, ◌==◌, List, [], ◌∷◌, ◌++◌, codes, length}
use Rattle.std.specs.Char.{is_ascii_digit, is_ascii_alphanumeric}
use Rattle.std.specs.List.{list_all, list_any}
use Rattle.std.specs.Str.{bytes_eq}
use Rattle.cc_whole_tokens.specs.declared.mark.Mark.{Mark}
use Rattle.cc_whole_tokens.specs.declared.mark.Mark.TheVariants as mark
use Rattle.cc_whole_tokens.specs.declared.token.Token.{Token}
use Rattle.cc_whole_tokens.specs.declared.token.Token.TheVariants as token
use Rattle.cc_whole_tokens.specs.Mark.{mark_text, words}

-- a letter, a digit or `_`
abbrev pub is_word_byte : ℕ → Bool
is_word_byte b = is_ascii_alphanumeric b || b == 95

-- whether the first byte passes a test
abbrev pub begins : (ℕ → Bool) → List ℕ → Bool
begins test [] = false
begins test (b ∷ bs) = test b

-- letters, digits and `_`, a digit not first
abbrev pub is_word : List ℕ → Bool
is_word bs = begins (λ b. is_word_byte b && not (is_ascii_digit b)) bs && list_all is_word_byte bs

abbrev pub is_reserved : List ℕ → Bool
is_reserved bs = list_any (λ m. bytes_eq (mark_text m) bs) words

-- a name is a word that is not reserved
abbrev pub is_name : List ℕ → Bool
is_name bs = is_word bs && not (is_reserved bs)

-- 0 stands not first, or alone
abbrev pub is_plain : List ℕ → Bool
is_plain bs = not (begins (λ b. b == 48) bs) || length bs == 1

-- decimal digits, 0 not first but alone
abbrev pub is_numeral : List ℕ → Bool
is_numeral bs = begins is_ascii_digit bs && (list_all is_ascii_digit bs && is_plain bs)

-- a string is cut by a rule of its own
abbrev pub is_token : Token → Bool
is_token (token.Mark m) = true
is_token token.Dash = true
is_token (token.Name name) = is_name name
is_token (token.Signed digits) = is_numeral digits
is_token (token.Unsigned digits) = is_numeral digits
is_token (token.Text bytes) = false
is_token token.Shared = true

abbrev pub spelling : Token → List ℕ
spelling (token.Mark m) = mark_text m
spelling token.Dash = codes "-"
spelling (token.Name name) = name
spelling (token.Signed digits) = digits
spelling (token.Unsigned digits) = digits ++ codes "u"
spelling (token.Text bytes) = []
spelling token.Shared = codes "#pragma cf_shared"

-- whether a sign or word is longer with the bytes behind it
abbrev pub goes_on : Mark → List ℕ → Bool
goes_on mark.Minus bs = begins is_ascii_digit bs
goes_on mark.Less bs = begins (λ b. b == 60 || b == 61) bs
goes_on mark.Greater bs = begins (λ b. b == 61 || b == 62) bs
goes_on mark.Assign bs = begins (λ b. b == 61) bs
goes_on mark.Not bs = begins (λ b. b == 61) bs
goes_on m bs = begins is_word_byte (mark_text m) && begins is_word_byte bs

-- spaces and a newline stand at the front
abbrev pub ends_line : List ℕ → Bool
ends_line [] = false
ends_line (b ∷ bs) = b == 10 || (b == 32 && ends_line bs)

-- whether the token ends where these bytes go on
abbrev pub ends : Token → List ℕ → Bool
ends (token.Mark m) bs = not (goes_on m bs)
ends token.Dash bs = begins is_ascii_digit bs
ends (token.Name name) bs = not (begins is_word_byte bs)
ends (token.Signed digits) bs = not (begins is_word_byte bs)
ends (token.Unsigned digits) bs = not (begins is_word_byte bs)
ends (token.Text bytes) bs = true
ends token.Shared bs = ends_line bs
