-- Operators and punctuation (2.1).
use Rattle.std.specs.Prelude.{ℕ, List, take, length, Option, Some, None}
use Rattle.cf_tokens.specs.Signs.{signs}
use Rattle.cf_tokens.specs.Table.{index_in}
use Rattle.cf_tokens.specs.declared.token.Word.TheVariants.{Sign}
use Rattle.cf_tokens.specs.declared.piece.Piece.{Piece}
use Rattle.cf_tokens.specs.declared.piece.Piece.TheVariants.{Whole, Flaw}

abbrev pub numbered : Piece → ℕ → Option ℕ → Piece
numbered other n (Some number) = Whole (Sign number) n
numbered other n None = other

-- the sign that the first n bytes are, if they are one, and else this
abbrev pub sign_or : Piece → ℕ → List ℕ → Piece
sign_or other n text = numbered other (length (take n text)) (index_in signs (take n text))

-- the longest sign at the front, of three bytes, two or one; a byte that begins nothing is a stray one (K1)
unfoldable pub symbol : List ℕ → Piece
symbol text = sign_or (sign_or (sign_or (Flaw 1) 1 text) 2 text) 3 text
