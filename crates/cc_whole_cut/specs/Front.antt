-- The token at the front of a text that does not begin with a blank, but for strings, by its shape and its length in bytes.
use Rattle.std.specs.Prelude.{ℕ, ◌+◌, ◌-◌, Bool, not, ◌&&◌, ◌==◌, nat_eq, if◌then◌else◌, List, length, take, drop, Option, Some, None, codes}
use Rattle.std.specs.Char.{is_ascii_digit}
use Rattle.std.specs.List.{find, prefix_len, starts_with}
use Rattle.std.specs.Str.{bytes_eq}
use Rattle.cc_whole_tokens.specs.declared.mark.Mark.{Mark}
use Rattle.cc_whole_tokens.specs.declared.token.Token.{Token}
use Rattle.cc_whole_tokens.specs.declared.token.Token.TheVariants as token
use Rattle.cc_whole_cut.specs.declared.front.Shape.{Shape}
use Rattle.cc_whole_cut.specs.declared.front.Shape.TheVariants as shape
use Rattle.cc_whole_tokens.specs.Mark.{mark_text, words, signs}
use Rattle.cc_whole_tokens.specs.Token.{begins, is_word_byte, is_numeral}

abbrev pub sign_at : List ℕ → Option Mark
sign_at bs = find (λ m. starts_with nat_eq bs (mark_text m)) signs

abbrev pub reserved : List ℕ → Option Mark
reserved word = find (λ m. bytes_eq (mark_text m) word) words

abbrev pub word_shape : Option Mark → Shape
word_shape (Some m) = shape.Mark m
word_shape None = shape.Name

abbrev pub sign_shape : Option Mark → Option (Shape × ℕ)
sign_shape (Some m) = Some (shape.Mark m, length (mark_text m))
sign_shape None = None

-- a word of this many bytes
abbrev pub word_front : ℕ → List ℕ → Option (Shape × ℕ)
word_front n bs = Some (word_shape (reserved (take n bs)), n)

-- a `u` that no word goes on behind
abbrev pub is_suffix : List ℕ → Bool
is_suffix bs = begins (λ b. b == 117) bs && not (begins is_word_byte (drop 1 bs))

-- digits of this many bytes
abbrev pub number_front : ℕ → List ℕ → Option (Shape × ℕ)
number_front n bs =
    if not (is_numeral (take n bs)) then None
    else (if not (begins is_word_byte (drop n bs)) then Some (shape.Signed, n)
    else (if is_suffix (drop n bs) then Some (shape.Unsigned, n + 1) else None))

-- a `-` before a digit
abbrev pub is_dash : List ℕ → Bool
is_dash bs = begins (λ b. b == 45) bs && begins is_ascii_digit (drop 1 bs)

abbrev pub is_space : ℕ → Bool
is_space b = b == 32

-- a newline behind spaces
abbrev pub line_ends : List ℕ → Bool
line_ends bs = begins (λ b. b == 10) (drop (prefix_len is_space bs) bs)

abbrev pub begins_shared : List ℕ → Bool
begins_shared bs = starts_with nat_eq bs (codes "#pragma cf_shared")

abbrev pub shared_front : List ℕ → Option (Shape × ℕ)
shared_front bs = if begins_shared bs && line_ends (drop 17 bs) then Some (shape.Shared, 17) else None

unfoldable pub front : List ℕ → Option (Shape × ℕ)
front bs =
    if begins is_ascii_digit bs then number_front (prefix_len is_ascii_digit bs) bs
    else (if begins is_word_byte bs then word_front (prefix_len is_word_byte bs) bs
    else (if begins (λ b. b == 35) bs then shared_front bs
    else (if is_dash bs then Some (shape.Dash, 1) else sign_shape (sign_at bs))))

-- the token of this shape with these bytes
abbrev pub token_of : Shape → List ℕ → Token
token_of (shape.Mark m) bs = token.Mark m
token_of shape.Dash bs = token.Dash
token_of shape.Shared bs = token.Shared
token_of shape.Name bs = token.Name bs
token_of shape.Signed bs = token.Signed bs
token_of shape.Unsigned bs = token.Unsigned (take (length bs - 1) bs)
