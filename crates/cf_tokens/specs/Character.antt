-- The characters of constants and literals, and character constants (2.5.2).
use Rattle.std.specs.Prelude.{ℕ, ◌+◌, List, [], ◌∷◌, length, take, drop, get_or, nat_eq, nat_lt, if◌then◌else◌, ◌||◌, Option, Some, None, pos}
use Rattle.cf_base.specs.Integers.{convert}
use Rattle.cf_base.specs.declared.kind.Kind.TheVariants as kind
use Rattle.cf_tokens.specs.Class.{has, leading}
use Rattle.cf_tokens.specs.Number.{number_within}
use Rattle.cf_tokens.specs.declared.class.Class.TheVariants.{OctalDigit, HexDigit}
use Rattle.cf_tokens.specs.declared.token.Word.TheVariants.{Char}
use Rattle.cf_tokens.specs.declared.piece.Piece.{Piece}
use Rattle.cf_tokens.specs.declared.piece.Piece.TheVariants.{Whole, Flaw}

-- what the letter of a simple escape stands for: `\n \t \v \b \r \f \a \\ \? \' \"`
abbrev pub simple_escape : ℕ → Option ℕ
simple_escape letter =
    if nat_eq letter 110 then Some 10
    else if nat_eq letter 116 then Some 9
    else if nat_eq letter 118 then Some 11
    else if nat_eq letter 98 then Some 8
    else if nat_eq letter 114 then Some 13
    else if nat_eq letter 102 then Some 12
    else if nat_eq letter 97 then Some 7
    else if nat_eq letter 92 || nat_eq letter 63 || nat_eq letter 39 || nat_eq letter 34 then Some letter
    else None

-- a value, with how many bytes spell it
abbrev pub with_length : ℕ → Option ℕ → Option (ℕ × ℕ)
with_length n (Some value) = Some (value, n)
with_length n None = None

-- escapes by their digits
abbrev pub octal_escape : List ℕ → Option (ℕ × ℕ)
octal_escape digits = with_length (1 + length digits) (number_within 255 8 digits)

abbrev pub hex_escape : List ℕ → Option (ℕ × ℕ)
hex_escape digits = with_length (2 + length digits) (number_within 255 16 digits)

-- The value of an escape by the bytes behind its backslash, and how many bytes spell it, the backslash too: `x` and as many
-- hexadecimal digits as there are, one to three octal digits, or a letter; a value is at most 255.
unfoldable pub escape_at : List ℕ → Option (ℕ × ℕ)
escape_at [] = None
escape_at (letter ∷ behind) =
    if nat_eq letter 120 then hex_escape (leading HexDigit behind)
    else if has OctalDigit letter then octal_escape (take 3 (leading OctalDigit (letter ∷ behind)))
    else with_length 2 (simple_escape letter)

-- the value of the character at the front, and how many bytes spell it: an escape, or any byte but the newline
unfoldable pub unit_at : List ℕ → Option (ℕ × ℕ)
unit_at [] = None
unit_at (byte ∷ behind) = if nat_eq byte 10 then None else if nat_eq byte 92 then escape_at behind else Some (byte, 1)

-- a character constant has to end behind its character
abbrev pub closed : List ℕ → Option (ℕ × ℕ) → Piece
closed text (Some (value, n)) =
    if nat_eq (get_or text (n + 1) 0) 39 then Whole (Char (convert kind.Char (pos value))) (n + 2) else Flaw 5
closed text None = Flaw 5

-- `'` begins a constant: one ASCII character other than `'`, and `'`; it has type char (K5)
unfoldable pub character : List ℕ → Piece
character text =
    if nat_eq (get_or text 1 0) 39 || nat_lt 127 (get_or text 1 0) then Flaw 5 else closed text (unit_at (drop 1 text))
