-- What stands between tokens: blanks, comments and marker lines (2.1, 2.2, 16.4).
use Rattle.std.specs.Prelude.{ℕ, ◌+◌, List, [], ◌∷◌, drop, Bool, false, nat_eq, if◌then◌else◌, ◌||◌, Option, Some, None, codes}
use Rattle.std.specs.List.{starts_with, list_all}
use Rattle.std.specs.Option.{option_map_or}
use Rattle.cf_tokens.specs.Chain.{◌>>=◌}
use Rattle.cf_tokens.specs.Class.{run, leading, behind, is_blank, is_digit}
use Rattle.cf_tokens.specs.declared.class.Class.{Class}
use Rattle.cf_tokens.specs.declared.class.Class.TheVariants.{Blank, Digit, InLine, InQuotes}
use Rattle.cf_tokens.specs.declared.piece.Piece.{Piece}
use Rattle.cf_tokens.specs.declared.piece.Piece.TheVariants.{Gap, Flaw}

-- `//` begins a comment that runs to the end of the line
unfoldable pub line_comment : List ℕ → Piece
line_comment text = Gap (run InLine text)

-- how many of these bytes there are up to and with the first `*/`, with `n` bytes before them
abbrev pub comment_end : ℕ → List ℕ → Option ℕ
comment_end n [] = None
comment_end n (b ∷ bs) = if starts_with nat_eq (b ∷ bs) (codes "*/") then Some (n + 2) else comment_end (n + 1) bs

abbrev pub commented : Option ℕ → Piece
commented (Some n) = Gap n
commented None = Flaw 2

-- `/*` begins a comment that runs through the first `*/` behind it; there has to be one (K2)
unfoldable pub comment : List ℕ → Piece
comment text = commented (comment_end 2 (drop 2 text))

-- what stands behind this byte at the front
abbrev pub behind_byte : ℕ → List ℕ → Option (List ℕ)
behind_byte byte [] = None
behind_byte byte (b ∷ bs) = if nat_eq b byte then Some bs else None

-- what stands behind a run of one byte or more of a class
abbrev pub behind_some : Class → List ℕ → Option (List ℕ)
behind_some class bytes = if nat_eq (run class bytes) 0 then None else Some (behind class bytes)

-- what stands behind the word `line` and its blanks, where that word is there
abbrev pub behind_line : List ℕ → Option (List ℕ)
behind_line bytes = if starts_with nat_eq bytes (codes "line") then behind_some Blank (drop 4 bytes) else Some bytes

-- what stands behind the name of a line `#line n "f"` or `# n "f"`
unfoldable pub behind_marker : List ℕ → Option (List ℕ)
behind_marker line = do
  word ← behind_byte 35 line
  number ← behind_line (behind Blank word)
  gap ← behind_some Digit number
  quoted ← behind_some Blank gap
  name ← behind_byte 34 quoted
  behind_byte 34 (behind InQuotes name)

abbrev pub is_blank_or_digit : ℕ → Bool
is_blank_or_digit byte = is_blank byte || is_digit byte

-- whether a line is such a line, with or without further numbers
abbrev pub is_marker : List ℕ → Bool
is_marker line = option_map_or (list_all is_blank_or_digit) (behind_marker line) false

-- a line that begins with `#` is a marker line (K7), and no `#` stands elsewhere (K1)
unfoldable pub directive : Bool → List ℕ → Piece
directive starts_line text =
    if starts_line then (if is_marker (leading InLine text) then Gap (run InLine text) else Flaw 7) else Flaw 1
